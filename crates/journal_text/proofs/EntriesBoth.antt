-- Lines of entries: one is read exactly where it is written so.
use Rattle.std.proofs.Common.{◌≡◌, ℕ, ◌<◌, ◌≤◌, ◌^◌, Bool, true, false, cond, List, ◌++◌, Option, Some, None}
use Rattle.std.proofs.Common.{refl, sym, ◌∙◌, ap, arith, append_assoc, subst, codes}
use Rattle.std.specs.Prelude.{nat_le}
use Rattle.std.specs.Str.{bytes_eq}
use Rattle.std.proofs.lemmas.Bool.{le-leb, leb-true}
use Rattle.base.specs.Options.{◌>>=◌, guard}
use Rattle.base.proofs.Options.{bind_then, pick_then, guard_some}
use Rattle.mutations.specs.declared.mutation.Draw.{Draw}
use Rattle.mutations.specs.declared.mutation.Draw.TheVariants.{One, Two}
use Rattle.mutations.specs.declared.mutation.Mutation.{Mutation}
use Rattle.mutations.specs.declared.mutation.Mutation.TheVariants.{Move, Template, Swap, Load, Chain}
use Rattle.journal_rules.specs.declared.journal.Entry.{Entry}
use Rattle.journal_text.specs.declared.limits.TheConstants.{MAX_COST, MAX_LANE, MAX_TURN, MAX_SEEN, MAX_SLOT}
use Rattle.journal_text.specs.declared.limits.TheConstants.{MAX_TEMPLATE, MAX_CHAIN}
use Rattle.journal_text.specs.Text.{spaced, mutation_text, mark_text, place_text, entry_line}
use Rattle.journal_text.specs.Limits.{IsMutationWithin, IsEntryWithin}
use Rattle.journal_text.specs.Fields.{after, number_to}
use Rattle.journal_text.specs.Entries.{pair_to, move_at, template_at, swap_at, load_at, chain_at, mutation_at}
use Rattle.journal_text.specs.Entries.{mark_of, place_at, entry_of}
use Rattle.journal_text.proofs.Cuts.{after_is, after_back, equal_by_bytes}
use Rattle.journal_text.proofs.FieldsBoth.{to_is, to_back}

-- what an option that gives something gives
abbrev given : {A : Type 0} → A → Option A → A
given a None = a
given a (Some b) = b

-- ---- a slot and a number

pair_is : (max : ℕ) (text : List ℕ) (p : ℕ × ℕ × List ℕ) → pair_to max text ≡ Some p
    → (text ≡ (spaced p.0 ++ spaced p.1) ++ p.2) × (p.0 ≤ MAX_SLOT) × (p.1 ≤ max)
unfolding pair_to
pair_is max text p e =
    let Goal : ℕ × ℕ × List ℕ → Type 0 = λ q.
    (text ≡ (spaced q.0 ++ spaced q.1) ++ q.2) × (q.0 ≤ MAX_SLOT) × (q.1 ≤ max) in
    bind_then (number_to 32 MAX_SLOT text)
    (λ slot. number_to 32 max slot.1 >>= (λ number. Some (slot.0, number.0, number.1))) p (Goal p) (λ slot is more.
    bind_then (number_to 32 max slot.1) (λ number. Some (slot.0, number.0, number.1)) p (Goal p) (λ number found same.
    let s = to_is 32 MAX_SLOT text slot is in
    let n = to_is 32 max slot.1 number found in
    let whole : (slot.0, number.0, number.1) ≡ p = ap (given p) same in
    subst Goal whole (
      s.0 ∙ (ap (λ xs. spaced slot.0 ++ xs) n.0 ∙ sym (append_assoc (spaced slot.0) (spaced number.0) number.1)),
      s.1,
      n.1,
    )) more) e

pair_back : (max slot number : ℕ) (rest : List ℕ) → max < 2 ^ 64 → slot ≤ MAX_SLOT → number ≤ max
    → pair_to max ((spaced slot ++ spaced number) ++ rest) ≡ Some (slot, number, rest)
unfolding pair_to
pair_back max slot number rest small s n = rw (
  append_assoc (spaced slot) (spaced number) rest,
  to_back 32 MAX_SLOT slot (spaced number ++ rest) (omega arith) (omega arith) s,
  to_back 32 max number rest (omega arith) small n,
) refl

-- ---- mutations

-- the text is that of the mutation, and more
record IsRead (draw : Draw) (text : List ℕ) (p : Mutation × List ℕ) : Type 0 where
  spelled : text ≡ mutation_text p.0 ++ p.1
  within : IsMutationWithin draw p.0

move_is : (draw : Draw) (text rest : List ℕ) (p : Mutation × List ℕ) → text ≡ codes "move " ++ rest
    → move_at rest ≡ Some p → IsRead draw text p
unfolding move_at mutation_text
move_is draw text rest p front e =
    bind_then (pair_to MAX_SLOT rest) (λ q. Some (Move q.0 q.1, q.2)) p (IsRead draw text p) (λ q is same.
    let h = pair_is MAX_SLOT rest q is in
    let whole : (Move q.0 q.1, q.2) ≡ p = ap (given p) same in
    let P : Mutation × List ℕ → Type 0 = λ r. IsRead draw text r in
    subst P whole (record {
      spelled = front ∙ (ap (λ xs. codes "move " ++ xs) h.0
          ∙ sym (append_assoc (codes "move ") (spaced q.0 ++ spaced q.1) q.2));
      within = (h.1, h.2);
    })) e

template_is : (draw : Draw) (text rest : List ℕ) (p : Mutation × List ℕ) → text ≡ codes "template " ++ rest
    → template_at rest ≡ Some p → IsRead draw text p
unfolding template_at mutation_text
template_is draw text rest p front e =
    bind_then (pair_to MAX_TEMPLATE rest) (λ q. Some (Template q.0 q.1, q.2)) p (IsRead draw text p) (λ q is same.
    let h = pair_is MAX_TEMPLATE rest q is in
    let whole : (Template q.0 q.1, q.2) ≡ p = ap (given p) same in
    let P : Mutation × List ℕ → Type 0 = λ r. IsRead draw text r in
    subst P whole (record {
      spelled = front ∙ (ap (λ xs. codes "template " ++ xs) h.0
          ∙ sym (append_assoc (codes "template ") (spaced q.0 ++ spaced q.1) q.2));
      within = (h.1, h.2);
    })) e

swap_is : (draw : Draw) (text rest : List ℕ) (p : Mutation × List ℕ) → text ≡ codes "swap " ++ rest
    → swap_at rest ≡ Some p → IsRead draw text p
unfolding swap_at mutation_text
swap_is draw text rest p front e =
    bind_then (number_to 32 MAX_SLOT rest) (λ q. Some (Swap q.0, q.1)) p (IsRead draw text p) (λ q is same.
    let h = to_is 32 MAX_SLOT rest q is in
    let whole : (Swap q.0, q.1) ≡ p = ap (given p) same in
    let P : Mutation × List ℕ → Type 0 = λ r. IsRead draw text r in
    subst P whole (record {
      spelled = front ∙ (ap (λ xs. codes "swap " ++ xs) h.0 ∙ sym (append_assoc (codes "swap ") (spaced q.0) q.1));
      within = h.1;
    })) e

load_is : (draw : Draw) (text rest : List ℕ) (p : Mutation × List ℕ) → text ≡ codes "load " ++ rest
    → load_at rest ≡ Some p → IsRead draw text p
unfolding load_at mutation_text
load_is draw text rest p front e =
    bind_then (number_to 32 MAX_SLOT rest) (λ q. Some (Load q.0, q.1)) p (IsRead draw text p) (λ q is same.
    let h = to_is 32 MAX_SLOT rest q is in
    let whole : (Load q.0, q.1) ≡ p = ap (given p) same in
    let P : Mutation × List ℕ → Type 0 = λ r. IsRead draw text r in
    subst P whole (record {
      spelled = front ∙ (ap (λ xs. codes "load " ++ xs) h.0 ∙ sym (append_assoc (codes "load ") (spaced q.0) q.1));
      within = h.1;
    })) e

chain_is : (draw : Draw) (text rest : List ℕ) (p : Mutation × List ℕ) → text ≡ codes "chain " ++ rest
    → chain_at draw rest ≡ Some p → IsRead draw text p
unfolding chain_at mutation_text
chain_is One text rest p front e = cc
chain_is Two text rest p front e =
    bind_then (pair_to MAX_CHAIN rest) (λ q. guard (nat_le 1 q.1) (Chain q.0 q.1, q.2)) p (IsRead Two text p)
    (λ q is some.
    let h = pair_is MAX_CHAIN rest q is in
    let g = guard_some (nat_le 1 q.1) (Chain q.0 q.1, q.2) p some in
    let P : Mutation × List ℕ → Type 0 = λ r. IsRead Two text r in
    subst P g.1 (record {
      spelled = front ∙ (ap (λ xs. codes "chain " ++ xs) h.0
          ∙ sym (append_assoc (codes "chain ") (spaced q.0 ++ spaced q.1) q.2));
      within = (refl, h.1, leb-true 1 q.1 g.0, h.2);
    })) e

mutation_is : (draw : Draw) (text : List ℕ) (p : Mutation × List ℕ) → mutation_at draw text ≡ Some p
    → IsRead draw text p
unfolding mutation_at
mutation_is draw text p e =
    pick_then (after (codes "move ") text) move_at _ p (IsRead draw text p)
    (λ rest is read. move_is draw text rest p (after_is (codes "move ") text rest is) read)
    (λ gone. pick_then (after (codes "template ") text) template_at _ p (IsRead draw text p)
    (λ rest is read. template_is draw text rest p (after_is (codes "template ") text rest is) read)
    (λ gone. pick_then (after (codes "swap ") text) swap_at _ p (IsRead draw text p)
    (λ rest is read. swap_is draw text rest p (after_is (codes "swap ") text rest is) read)
    (λ gone. pick_then (after (codes "load ") text) load_at _ p (IsRead draw text p)
    (λ rest is read. load_is draw text rest p (after_is (codes "load ") text rest is) read)
    (λ gone. bind_then (after (codes "chain ") text) (chain_at draw) p (IsRead draw text p)
    (λ rest is read. chain_is draw text rest p (after_is (codes "chain ") text rest is) read))))) e

mutation_back : (draw : Draw) (m : Mutation) (rest : List ℕ) → IsMutationWithin draw m
    → mutation_at draw (mutation_text m ++ rest) ≡ Some (m, rest)
unfolding mutation_at mutation_text after move_at template_at swap_at load_at chain_at
mutation_back draw (Move slot to) rest h = rw (pair_back MAX_SLOT slot to rest (omega arith) h.0 h.1) refl
mutation_back draw (Template slot number) rest h =
    rw (pair_back MAX_TEMPLATE slot number rest (omega arith) h.0 h.1) refl
mutation_back draw (Swap slot) rest h = rw (to_back 32 MAX_SLOT slot rest (omega arith) (omega arith) h) refl
mutation_back draw (Load slot) rest h = rw (to_back 32 MAX_SLOT slot rest (omega arith) (omega arith) h) refl
mutation_back draw (Chain slot number) rest h =
    rw (h.0, pair_back MAX_CHAIN slot number rest (omega arith) h.1 h.3, le-leb 1 number h.2) refl

-- ---- marks

mark_is : (text : List ℕ) (plain : Bool) → mark_of text ≡ Some plain → text ≡ mark_text plain
unfolding mark_of
mark_is text plain e = by_tests (bytes_eq text (codes "plain\n")) (bytes_eq text (codes "fast\n")) plain refl refl e
  where
    by_tests : (a b : Bool) (plain : Bool) → bytes_eq text (codes "plain\n") ≡ a → bytes_eq text (codes "fast\n") ≡ b
        → cond a (Some true) (guard b false) ≡ Some plain → text ≡ mark_text plain
    by_tests true b true x y e = equal_by_bytes text (codes "plain\n") x
    by_tests true b false x y e = cc
    by_tests false true false x y e = equal_by_bytes text (codes "fast\n") y
    by_tests false true true x y e = cc
    by_tests false false plain x y e = cc

mark_back : (plain : Bool) → mark_of (mark_text plain) ≡ Some plain
unfolding mark_of
mark_back true = refl
mark_back false = refl

-- ---- entries

-- the line begins so
abbrev IsPlaced : List ℕ → ℕ × ℕ × ℕ × List ℕ → Type 0
IsPlaced line p = (line ≡ codes "entry " ++ (spaced p.0 ++ (spaced p.1 ++ (spaced p.2 ++ p.3))))
    × (p.0 ≤ MAX_LANE) × (p.1 ≤ MAX_TURN) × (p.2 ≤ MAX_SEEN)

place_is : (line : List ℕ) (p : ℕ × ℕ × ℕ × List ℕ) → place_at line ≡ Some p → IsPlaced line p
unfolding place_at
place_is line p e =
    bind_then (after (codes "entry ") line) _ p (IsPlaced line p) (λ rest front e1.
    bind_then (number_to 32 MAX_LANE rest) _ p (IsPlaced line p) (λ lane l e2.
    bind_then (number_to 32 MAX_TURN lane.1) _ p (IsPlaced line p) (λ turn t e3.
    bind_then (number_to 32 MAX_SEEN turn.1) _ p (IsPlaced line p) (λ seen s same.
    let a = after_is (codes "entry ") line rest front in
    let b = to_is 32 MAX_LANE rest lane l in
    let c = to_is 32 MAX_TURN lane.1 turn t in
    let d = to_is 32 MAX_SEEN turn.1 seen s in
    let whole : (lane.0, turn.0, seen.0, seen.1) ≡ p = ap (given p) same in
    let P : ℕ × ℕ × ℕ × List ℕ → Type 0 = λ q. IsPlaced line q in
    subst P whole (
      a ∙ ap (λ xs. codes "entry " ++ xs)
          (b.0 ∙ ap (λ xs. spaced lane.0 ++ xs) (c.0 ∙ ap (λ xs. spaced turn.0 ++ xs) d.0)),
      b.1,
      c.1,
      d.1,
    )) e3) e2) e1) e

place_assoc : (e : Entry) (rest : List ℕ)
    → place_text e ++ rest ≡ codes "entry " ++ (spaced e.lane ++ (spaced e.turn ++ (spaced e.seen ++ rest)))
unfolding place_text
place_assoc e rest = simp append_assoc

place_back : (e : Entry) (rest : List ℕ) → e.lane ≤ MAX_LANE → e.turn ≤ MAX_TURN → e.seen ≤ MAX_SEEN
    → place_at (place_text e ++ rest) ≡ Some (e.lane, e.turn, e.seen, rest)
unfolding place_at
place_back e rest lane turn seen = rw (
  place_assoc e rest,
  after_back (codes "entry ") (spaced e.lane ++ (spaced e.turn ++ (spaced e.seen ++ rest))),
  to_back 32 MAX_LANE e.lane (spaced e.turn ++ (spaced e.seen ++ rest)) (omega arith) (omega arith) lane,
  to_back 32 MAX_TURN e.turn (spaced e.seen ++ rest) (omega arith) (omega arith) turn,
  to_back 32 MAX_SEEN e.seen rest (omega arith) (omega arith) seen,
) refl

pub entry_is : (draw : Draw) (line : List ℕ) (entry : Entry) → entry_of draw line ≡ Some entry
    → (line ≡ entry_line entry) × IsEntryWithin draw entry
unfolding entry_of entry_line
entry_is draw line entry e =
    let Goal : Entry → Type 0 = λ x.
    (line ≡ place_text x ++ (mutation_text x.mutation ++ (spaced x.cost ++ mark_text x.plain)))
    × IsEntryWithin draw x in
    bind_then (place_at line) _ entry (Goal entry) (λ place p e1.
    bind_then (mutation_at draw place.3) _ entry (Goal entry) (λ mutation m e2.
    bind_then (number_to 32 MAX_COST mutation.1) _ entry (Goal entry) (λ cost c e3.
    bind_then (mark_of cost.1) _ entry (Goal entry) (λ plain k same.
    let a = place_is line place p in
    let b = mutation_is draw place.3 mutation m in
    let d = to_is 32 MAX_COST mutation.1 cost c in
    let f = mark_is cost.1 plain k in
    let read : Entry = record {
      lane = place.0;
      turn = place.1;
      seen = place.2;
      mutation = mutation.0;
      cost = cost.0;
      plain = plain;
    } in
    let whole : read ≡ entry = ap (given entry) same in
    subst Goal whole (
      a.0 ∙ (sym (place_assoc read place.3) ∙ ap (λ xs. place_text read ++ xs)
          (b.spelled ∙ ap (λ xs. mutation_text mutation.0 ++ xs) (d.0 ∙ ap (λ xs. spaced cost.0 ++ xs) f))),
      record { lane = a.1; turn = a.2; seen = a.3; mutation = b.within; cost = d.1 },
    )) e3) e2) e1) e

pub entry_back : (draw : Draw) (e : Entry) → IsEntryWithin draw e → entry_of draw (entry_line e) ≡ Some e
unfolding entry_of entry_line
entry_back draw e h = rw (
  place_back e (mutation_text e.mutation ++ (spaced e.cost ++ mark_text e.plain)) h.lane h.turn h.seen,
  mutation_back draw e.mutation (spaced e.cost ++ mark_text e.plain) h.mutation,
  to_back 32 MAX_COST e.cost (mark_text e.plain) (omega arith) (omega arith) h.cost,
  mark_back e.plain,
) refl

-- ---- the first letters

-- the line of an entry is not the last line
pub entry_no_end : (e : Entry) → bytes_eq (entry_line e) (codes "end\n") ≡ false
unfolding entry_line place_text
entry_no_end e = refl
