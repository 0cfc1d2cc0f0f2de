-- The first fault of a document's form is that of its first part with another form.
use Rattle.std.proofs.Common.{◌≡◌, ℕ, ◌<◌, ◌⊎◌, inl, inr, Bool, true, false, List, [], ◌∷◌, refl, sym, ◌∙◌, ap, ap₂}
use Rattle.std.proofs.Common.{subst, arith}
use Rattle.std.specs.Prelude.{Option, Some, None, is_none, codes, slice_get, ◌↔◌}
use Rattle.std.specs.Option.{option_map_or}
use Rattle.std.specs.Str.{bytes_eq}
use Rattle.std.proofs.lemmas.Bool.{or_cases}
use Rattle.std.proofs.lemmas.Slice.Eq.{bytes_eq-Decides}
use Rattle.serde_json.specs.Data.{Data, null, boolean, number, string, array, object}
use Rattle.serde_json.specs.Find.{get}
use Rattle.base.specs.Options.{◌>>=◌, guard}
use Rattle.word_text.specs.Texts.{is_overlap}
use Rattle.word_text.specs.declared.fault.Place.{Place}
use Rattle.word_text.specs.declared.fault.Section.{Section}
use Rattle.word_text.specs.declared.fault.Section.TheVariants.{Top, Returns, Arguments, Body}
use Rattle.word_program.specs.Walk.{RuleFault, place_in, at, walk}
use Rattle.word_program.specs.Failing.{Fails, turn, IsBefore, by_turn, by_item}
use Rattle.word_program.specs.Rules.{first_fault}
use Rattle.word_program.proofs.FailingNames.{none_by_test}
use Rattle.word_program.proofs.FailingOrder.{Finds, At, AllBefore, Somewhere, finds_at, finds_as, finds_or, finds_walk}
use Rattle.word_program.proofs.FailingOrder.{none_is_found}
use Rattle.word_program.proofs.FailingLaws.{fault_found}
use Rattle.word_program.proofs.FailingWhole.{from_zero}
use Rattle.fiat_json.specs.Misshapen.{IsNoDocument, Misshapen, DocumentFails}
use Rattle.fiat_json.specs.Shape.{text_in, list_in, raw_param, raw_op, raw_program, overlap_said, Parts, parts_in}
use Rattle.fiat_json.specs.Shape.{parts_fault, shape_fault}
use Rattle.fiat_json.specs.Reading.{document_fault}

-- ---- the document as a whole

is_any_or_none : (text : List ℕ) → is_overlap text ≡ true
    → (string text ≡ string (codes "any")) ⊎ (string text ≡ string (codes "none"))
is_any_or_none text e = by_text (or_cases (bytes_eq text (codes "any")) (bytes_eq text (codes "none")) e)
  where
    by_text : (bytes_eq text (codes "any") ≡ true) ⊎ (bytes_eq text (codes "none") ≡ true)
        → (string text ≡ string (codes "any")) ⊎ (string text ≡ string (codes "none"))
    by_text (inl h) = inl (ap string ((bytes_eq-Decides text (codes "any")).0 h))
    by_text (inr h) = inr (ap string ((bytes_eq-Decides text (codes "none")).0 h))

-- a value that is read says `any` or `none`
said_is : (v : Data) (o : Option (List ℕ)) → overlap_said (Some v) ≡ Some o
    → (v ≡ string (codes "any")) ⊎ (v ≡ string (codes "none"))
unfolding overlap_said
said_is null o e = absurd (cc)
said_is (boolean b) o e = absurd (cc)
said_is (number n) o e = absurd (cc)
said_is (string text) o e = by_test (is_overlap text) refl e
  where
    by_test : (b : Bool) → is_overlap text ≡ b → guard b (Some text) ≡ Some o
        → (string text ≡ string (codes "any")) ⊎ (string text ≡ string (codes "none"))
    by_test true is h = is_any_or_none text is
    by_test false is h = absurd (cc)
said_is (array ds) o e = absurd (cc)
said_is (object ms) o e = absurd (cc)

-- where a value is not read, it says neither
said_any : (v : Data) → overlap_said (Some v) ≡ None → v ≡ string (codes "any") → ⊥
unfolding overlap_said
said_any v none is = let e : overlap_said (Some (string (codes "any"))) ≡ None =
    subst (λ x. overlap_said (Some x) ≡ None) is none in cc e

said_none : (v : Data) → overlap_said (Some v) ≡ None → v ≡ string (codes "none") → ⊥
unfolding overlap_said
said_none v none is = let e : overlap_said (Some (string (codes "none"))) ≡ None =
    subst (λ x. overlap_said (Some x) ≡ None) is none in cc e

unread : (d : Data) (v : Option Data) → get (codes "overlap") d ≡ v → overlap_said v ≡ None → IsNoDocument d
unfolding overlap_said
unread d None is none = absurd (cc)
unread d (Some v) is none = IsNoDocument.overlap v is (said_any v none) (said_none v none)

-- the document has its parts
record HasParts (d : Data) (p : Parts) : Type 0 where
  name : text_in (codes "operation") d ≡ Some p.name
  returns : list_in (codes "returns") d ≡ Some p.returns
  arguments : list_in (codes "arguments") d ≡ Some p.arguments
  body : list_in (codes "body") d ≡ Some p.body
  overlap : overlap_said (get (codes "overlap") d) ≡ Some p.overlap

parts_by : (d : Data) (name : Option (List ℕ)) (returns arguments body : Option (List Data))
    (overlap : Option (Option (List ℕ))) → text_in (codes "operation") d ≡ name → list_in (codes "returns") d ≡ returns
    → list_in (codes "arguments") d ≡ arguments → list_in (codes "body") d ≡ body
    → overlap_said (get (codes "overlap") d) ≡ overlap → (o : Option Parts) → o ≡ (do
      n ← name
      r ← returns
      a ← arguments
      b ← body
      v ← overlap
      Some (record { name = n; returns = r; arguments = a; body = b; overlap = v }))
    → (IsNoDocument d × (o ≡ None)) ⊎ ((p : Parts) × (o ≡ Some p) × HasParts d p)
parts_by d None r a b v en er ea eb ev o e = inl (IsNoDocument.name en, e)
parts_by d (Some n) None a b v en er ea eb ev o e = inl (IsNoDocument.returns er, e)
parts_by d (Some n) (Some r) None b v en er ea eb ev o e = inl (IsNoDocument.arguments ea, e)
parts_by d (Some n) (Some r) (Some a) None v en er ea eb ev o e = inl (IsNoDocument.body eb, e)
parts_by d (Some n) (Some r) (Some a) (Some b) None en er ea eb ev o e =
    inl (unread d (get (codes "overlap") d) refl ev, e)
parts_by d (Some n) (Some r) (Some a) (Some b) (Some v) en er ea eb ev o e =
    inr (
      record { name = n; returns = r; arguments = a; body = b; overlap = v },
      e,
      record { name = en; returns = er; arguments = ea; body = eb; overlap = ev },
    )

-- the document has its parts, or else it is none
parts_or : (d : Data) → (IsNoDocument d × (parts_in d ≡ None)) ⊎ ((p : Parts) × (parts_in d ≡ Some p) × HasParts d p)
unfolding parts_in
parts_or d = parts_by d _ _ _ _ _ refl refl refl refl refl (parts_in d) refl

not_both : (d : Data) (p : Parts) → HasParts d p → IsNoDocument d → ⊥
not_both d p has (IsNoDocument.name e) = let none : Some p.name ≡ None = sym has.name ∙ e in cc none
not_both d p has (IsNoDocument.returns e) = let none : Some p.returns ≡ None = sym has.returns ∙ e in cc none
not_both d p has (IsNoDocument.arguments e) = let none : Some p.arguments ≡ None = sym has.arguments ∙ e in cc none
not_both d p has (IsNoDocument.body e) = let none : Some p.body ≡ None = sym has.body ∙ e in cc none
not_both d p has (IsNoDocument.overlap v is not_any not_none) =
    neither (said_is v p.overlap (ap overlap_said (sym is) ∙ has.overlap))
  where
    neither : (v ≡ string (codes "any")) ⊎ (v ≡ string (codes "none")) → ⊥
    neither (inl e) = not_any e
    neither (inr e) = not_none e

-- ---- the items of a section

-- an item that `raw` does not read
abbrev AtItem : {X : Type 0} → (Data → Option X) → Section → Unit {0} → ℕ → Data → RuleFault → Type 0
AtItem raw section u n d = At (place_in section n 0) (λ code. (code ≡ 1) × (raw d ≡ None))

abbrev item_fault : {X : Type 0} → (Data → Option X) → Section → Unit {0} → ℕ → Data → Option RuleFault
item_fault raw section u n d = at (place_in section n 0) ((1, is_none (raw d)) ∷ [])

item_found : {X : Type 0} (raw : Data → Option X) (section : Section) (u : Unit {0}) (n : ℕ) (d : Data)
    → Finds (AtItem raw section u n d) (item_fault raw section u n d)
item_found raw section u n d =
    finds_at (λ code. (code ≡ 1) × (raw d ≡ None)) (place_in section n 0) ((1, is_none (raw d)) ∷ [])
    (λ c e a b. ap (λ code. turn code section) (a.0 ∙ sym b.0)) refl ((λ e. (refl, none_by_test _ e)), λ m. tt)
    (λ code a. inl (a.0, ap is_none a.1))

abbrev InItems : {X : Type 0} → (Data → Option X) → Section → List Data → RuleFault → Type 0
InItems raw section items = Somewhere (AtItem raw section) (λ u d. u) tt 0 items

items_found : {X : Type 0} (raw : Data → Option X) (section : Section) (items : List Data)
    → Finds (InItems raw section items) (walk (item_fault raw section) (λ u d. u) tt 0 items)
items_found raw section items =
    finds_walk (AtItem raw section) (item_fault raw section) (λ u d. u) (item_found raw section) order items tt 0
  where
    order : (u v : Unit {0}) (n m : ℕ) (x y : Data) → n < m
        → AllBefore (AtItem raw section u n x) (AtItem raw section v m y)
    order u v n m x y lt f g a b =
        let ft : turn f.0 f.1.section ≡ turn 1 section = ap₂ (λ c p. turn c p.section) a.1.0 a.0 in
        let gt : turn g.0 g.1.section ≡ turn 1 section = ap₂ (λ c p. turn c p.section) b.1.0 b.0 in
        let fi : f.1.item ≡ n = ap (λ p. p.item) a.0 in
        let gi : g.1.item ≡ m = ap (λ p. p.item) b.0 in
        by_item (ft ∙ sym gt) (omega arith)

items_turn : {X : Type 0} (raw : Data → Option X) (section : Section) (items : List Data) (f : RuleFault)
    → InItems raw section items f → turn f.0 f.1.section ≡ turn 1 section
items_turn raw section items f w = ap₂ (λ c p. turn c p.section) w.3.1.0 w.3.0

-- ---- the form

abbrev InParts : Parts → RuleFault → Type 0
InParts p f = InItems raw_param Returns p.returns f
    ⊎ (InItems raw_param Arguments p.arguments f ⊎ InItems raw_op Body p.body f)

parts_found : (p : Parts) → Finds (InParts p) (parts_fault p)
parts_found p =
    finds_or (InItems raw_param Returns p.returns)
    (λ f. InItems raw_param Arguments p.arguments f ⊎ InItems raw_op Body p.body f) _ _ returns_first
    (items_found raw_param Returns p.returns)
    (λ e.
    finds_or (InItems raw_param Arguments p.arguments) (InItems raw_op Body p.body) _ _
    (λ f g a b.
    let ft : turn f.0 f.1.section ≡ 2 = items_turn raw_param Arguments p.arguments f a in
    let gt : turn g.0 g.1.section ≡ 3 = items_turn raw_op Body p.body g b in
    by_turn (omega arith))
    (items_found raw_param Arguments p.arguments) (λ e. items_found raw_op Body p.body))
  where
    returns_first : AllBefore (InItems raw_param Returns p.returns)
        (λ f. InItems raw_param Arguments p.arguments f ⊎ InItems raw_op Body p.body f)
    returns_first f g a (inl b) =
        let ft : turn f.0 f.1.section ≡ 1 = items_turn raw_param Returns p.returns f a in
        let gt : turn g.0 g.1.section ≡ 2 = items_turn raw_param Arguments p.arguments g b in
        by_turn (omega arith)
    returns_first f g a (inr b) =
        let ft : turn f.0 f.1.section ≡ 1 = items_turn raw_param Returns p.returns f a in
        let gt : turn g.0 g.1.section ≡ 3 = items_turn raw_op Body p.body g b in
        by_turn (omega arith)

abbrev pub FailsInForm : Data → RuleFault → Type 0
FailsInForm d f = (f.0 ≡ 1) × Misshapen d f.1

in_form : (d : Data) (p : Parts) → HasParts d p → (f : RuleFault) → InParts p f → FailsInForm d f
in_form d p has f (inl w) = (
  w.3.1.0,
  Misshapen.return p.returns w.0 w.1 has.returns w.2
      (w.3.0 ∙ ap (λ k. place_in Returns k 0) (from_zero w.0)) w.3.1.1,
)
in_form d p has f (inr (inl w)) = (
  w.3.1.0,
  Misshapen.argument p.arguments w.0 w.1 has.arguments w.2
      (w.3.0 ∙ ap (λ k. place_in Arguments k 0) (from_zero w.0)) w.3.1.1,
)
in_form d p has f (inr (inr w)) = (
  w.3.1.0,
  Misshapen.operation p.body w.0 w.1 has.body w.2
      (w.3.0 ∙ ap (λ k. place_in Body k 0) (from_zero w.0)) w.3.1.1,
)

same_items : (o : Option (List Data)) (xs ys : List Data) (i : ℕ) (v : Data) → o ≡ Some xs → o ≡ Some ys
    → slice_get ys i ≡ Some v → slice_get xs i ≡ Some v
same_items o xs ys i v a b is = let e : ys ≡ xs = cc in subst (λ zs. slice_get zs i ≡ Some v) e is

in_parts : (d : Data) (p : Parts) → HasParts d p → (f : RuleFault) → f.0 ≡ 1 → Misshapen d f.1 → InParts p f
in_parts d p has f one (Misshapen.whole at no_document) = absurd (not_both d p has no_document)
in_parts d p has f one (Misshapen.return items i v is there at none) =
    inl (
      i,
      v,
      same_items _ p.returns items i v has.returns is there,
      (at ∙ ap (λ k. place_in Returns k 0) (sym (from_zero i)), (one, none)),
    )
in_parts d p has f one (Misshapen.argument items i v is there at none) =
    inr (inl (
      i,
      v,
      same_items _ p.arguments items i v has.arguments is there,
      (at ∙ ap (λ k. place_in Arguments k 0) (sym (from_zero i)), (one, none)),
    ))
in_parts d p has f one (Misshapen.operation items i v is there at none) =
    inr (inr (
      i,
      v,
      same_items _ p.body items i v has.body is there,
      (at ∙ ap (λ k. place_in Body k 0) (sym (from_zero i)), (one, none)),
    ))

-- nothing is before the document as a whole
top_first : (f : RuleFault) → f.0 ≡ 1 → IsBefore f (1, place_in Top 0 0) → ⊥
top_first f one (IsBefore.by_turn t) = omega arith
top_first f one (IsBefore.by_item t i) = omega arith
top_first f one (IsBefore.by_part t i p) = omega arith
top_first f one (IsBefore.by_code t i p c) = omega arith

pub form_found : (d : Data) → Finds (FailsInForm d) (shape_fault d)
unfolding shape_fault
form_found d = by_parts (parts_or d)
  where
    by_parts : (IsNoDocument d × (parts_in d ≡ None)) ⊎ ((p : Parts) × (parts_in d ≡ Some p) × HasParts d p)
        → Finds (FailsInForm d) (option_map_or parts_fault (parts_in d) (Some (1, place_in Top 0 0)))
    by_parts (inl w) =
        subst (λ o. Finds (FailsInForm d) (option_map_or parts_fault o (Some (1, place_in Top 0 0)))) (sym w.1)
        ((refl, Misshapen.whole refl w.0), λ g a before. top_first g a.0 before)
    by_parts (inr w) =
        subst (λ o. Finds (FailsInForm d) (option_map_or parts_fault o (Some (1, place_in Top 0 0)))) (sym w.1)
        (finds_as (InParts w.0) (FailsInForm d) (parts_fault w.0) (in_form d w.0 w.2)
        (λ f a. in_parts d w.0 w.2 f a.0 a.1) (parts_found w.0))

-- ---- the document

nothing_misshapen : (d : Data) → ((f : RuleFault) → FailsInForm d f → ⊥) → (place : Place) → Misshapen d place → ⊥
nothing_misshapen d none place m = none (1, place) (refl, m)

pub form_passes : (d : Data) → (shape_fault d ≡ None) ↔ ((place : Place) → Misshapen d place → ⊥)
form_passes d =
    let e = none_is_found (FailsInForm d) (shape_fault d) (form_found d) in
    (λ none. nothing_misshapen d (e.0 none), λ nothing. e.1 (λ f a. nothing f.1 a.1))

abbrev FailsInParts : Data → RuleFault → Type 0
FailsInParts d f = ((place : Place) → Misshapen d place → ⊥) × Fails (raw_program d) f.0 f.1

pub document_found : (d : Data) → Finds (λ f. DocumentFails d f.0 f.1) (document_fault d)
document_found d =
    finds_as (λ f. FailsInForm d f ⊎ FailsInParts d f) (λ f. DocumentFails d f.0 f.1) (document_fault d) to back
    (finds_or (FailsInForm d) (FailsInParts d) (shape_fault d) (first_fault (raw_program d))
    (λ f g a b. absurd (b.0 f.1 a.1)) (form_found d)
    (λ none.
    finds_as (λ f. Fails (raw_program d) f.0 f.1) (FailsInParts d) (first_fault (raw_program d))
    (λ f a. ((form_passes d).0 none, a)) (λ f a. a.1) (fault_found (raw_program d))))
  where
    to : (f : RuleFault) → FailsInForm d f ⊎ FailsInParts d f → DocumentFails d f.0 f.1
    to f (inl a) = DocumentFails.form a.0 a.1
    to f (inr a) = DocumentFails.rule a.0 a.1

    back : (f : RuleFault) → DocumentFails d f.0 f.1 → FailsInForm d f ⊎ FailsInParts d f
    back f (DocumentFails.form one m) = inl (one, m)
    back f (DocumentFails.rule none a) = inr (none, a)
