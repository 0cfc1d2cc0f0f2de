-- A line is read as an item exactly where it is that item by the grammar.
use Rattle.std.proofs.Common.{◌≡◌, ℕ, Bool, true, false, not, ◌&&◌, List, [], ◌∷◌, Option, Some, None, codes, nat_lt}
use Rattle.std.proofs.Common.{refl, sym, ap, subst, ◌∙◌}
use Rattle.std.specs.Prelude.{if◌then◌else◌}
use Rattle.std.proofs.lemmas.Bool.{lt-ltb, ltb-true}
use Rattle.base.specs.Identifiers.{is_identifier}
use Rattle.x86_instr.specs.declared.line.Line.{Line}
use Rattle.x86_instr.specs.Mnemonics.{mnemonic_of}
use Rattle.base.specs.Options.{◌>>=◌, pick, guard, only}
use Rattle.asm_tokens.specs.Tokens.{Token, token, tokens, after}
use Rattle.base.specs.Numbers.{numeral}
use Rattle.asm_tokens.specs.Comments.{comment_number}
use Rattle.asm_tokens.specs.Lines.{code_part, comment_part}
use Rattle.asm_operands.specs.Grammar.{IsToken}
use Rattle.base.proofs.Options.{bind_then, pick_then, guard_some}
use Rattle.asm_operands.proofs.GrammarFound.{token_found}
use Rattle.asm_text.specs.Instructions.{is_end, instr_in}
use Rattle.asm_text.specs.Items.{Item, blank, syntax_line, text_line, global, label, code, owner_in, name_at}
use Rattle.asm_text.specs.Items.{syntax_rest, is_syntax_line, is_text_line, global_in, is_colon, label_in, line_in}
use Rattle.asm_text.specs.Items.{full_item, item_in}
use Rattle.asm_text.specs.Grammar.{Operand, AreOperands, IsParted, operands_of, IsInstr, NamesOwner, IsOwner, texts}
use Rattle.asm_text.specs.Grammar.{IsLabel, IsLine, IsItem}
use Rattle.asm_text.proofs.NamesBack.{begins_dot, mnemonic_no_dot}
use Rattle.asm_text.proofs.LinesBack.{no_syntax, no_text, no_global}
use Rattle.asm_text.proofs.HeaderBack.{name_no_dot}
use Rattle.asm_text.proofs.InstrRead.{instr_read}
use Rattle.asm_text.proofs.InstrFound.{instr_found, end_nil}

-- ---- owners

only_found : (ts : List Token) (t : Token) → only ts ≡ Some t → ts ≡ t ∷ []
only_found [] t e = cc
only_found (u ∷ []) t e = let same : u ≡ t = cc in ap (λ x. x ∷ []) same
only_found (u ∷ v ∷ ts) t e = cc

owner_found : (comment : List ℕ) (op : ℕ) → owner_in comment ≡ Some op → NamesOwner comment op
unfolding owner_in comment_number
owner_found comment op e =
    bind_then (only (tokens comment) >>= (λ t. numeral 10 t.text)) _ op (NamesOwner comment op) (λ n at e.
    let h = guard_some (nat_lt n 2048) n op e in
    bind_then (only (tokens comment)) _ n (NamesOwner comment op) (λ t is was.
    subst (NamesOwner comment) h.1 (record {
      first = t;
      is = only_found (tokens comment) t is;
      spelled = was;
      small = ltb-true n 2048 h.0;
    })) at) e

owner_there : (comment : List ℕ) (op : ℕ) → NamesOwner comment op → owner_in comment ≡ Some op
unfolding owner_in comment_number
owner_there comment op k = rw (k.is, k.spelled, lt-ltb op 2048 k.small) refl

owner_is : (comment : List ℕ) (o : Option ℕ) → owner_in comment ≡ o → IsOwner comment o
owner_is comment (Some op) e = owner_found comment op e
owner_is comment None e = λ op k. let there = owner_there comment op k in absurd (cc)

owner_read : (comment : List ℕ) (o : Option ℕ) → IsOwner comment o → owner_in comment ≡ o
owner_read comment (Some op) k = owner_there comment op k
owner_read comment None k = by_owner (owner_in comment) refl
  where
    by_owner : (o : Option ℕ) → owner_in comment ≡ o → o ≡ None
    by_owner None e = refl
    by_owner (Some op) e = absurd (k op (owner_found comment op e))

-- ---- header lines

record Two (ts : List Token) (a b : List ℕ) : Type 0 where
  t : Token
  u : Token
  is : ts ≡ t ∷ u ∷ []
  first : t.text ≡ a
  second : u.text ≡ b

two_texts : (ts : List Token) (a b : List ℕ) → texts ts ≡ a ∷ b ∷ [] → Two ts a b
two_texts [] a b e = cc
two_texts (t ∷ []) a b e = cc
two_texts (t ∷ u ∷ []) a b e = record { t = t; u = u; is = refl; first = cc; second = cc }
two_texts (t ∷ u ∷ v ∷ ts) a b e = cc

record One (ts : List Token) (a : List ℕ) : Type 0 where
  t : Token
  is : ts ≡ t ∷ []
  first : t.text ≡ a

one_text : (ts : List Token) (a : List ℕ) → texts ts ≡ a ∷ [] → One ts a
one_text [] a e = cc
one_text (t ∷ []) a e = record { t = t; is = refl; first = cc }
one_text (t ∷ u ∷ ts) a e = cc

syntax_read : (ts : List Token) (comment : List ℕ) → texts ts ≡ codes ".intel_syntax" ∷ codes "noprefix" ∷ []
    → full_item ts comment ≡ Some syntax_line
unfolding full_item is_syntax_line syntax_rest
syntax_read ts comment e = let k = two_texts ts (codes ".intel_syntax") (codes "noprefix") e in
    rw (k.is, k.first, k.second) refl

text_read : (ts : List Token) (comment : List ℕ) → texts ts ≡ codes ".text" ∷ [] → full_item ts comment ≡ Some text_line
unfolding full_item is_syntax_line syntax_rest is_text_line
text_read ts comment e = let k = one_text ts (codes ".text") e in rw (k.is, k.first) refl

global_read : (ts : List Token) (comment name : List ℕ) → texts ts ≡ codes ".globl" ∷ name ∷ []
    → is_identifier name ≡ true → full_item ts comment ≡ Some (global name)
unfolding full_item is_syntax_line syntax_rest is_text_line global_in name_at
global_read ts comment name e h = let k = two_texts ts (codes ".globl") name e in rw (k.is, k.first, k.second, h) refl

label_there : (t : Token) → is_identifier t.text ≡ true → label_in (t ∷ token false (codes ":") ∷ []) ≡ Some t.text
unfolding label_in name_at is_colon
label_there t h = rw h refl

label_read : (ts : List Token) (comment name : List ℕ) → IsLabel ts name → full_item ts comment ≡ Some (label name)
unfolding full_item
label_read ts comment name k =
    let h : is_identifier k.first.text ≡ true = ap is_identifier (sym k.spelled) ∙ k.identifier in
    let dot = name_no_dot k.first.text h in
    let rest : List Token = token false (codes ":") ∷ [] in
    rw (
      k.is,
      no_syntax k.first.spaced k.first.text rest dot,
      no_text k.first.spaced k.first.text rest dot,
      no_global k.first.spaced k.first.text rest dot,
      label_there k.first h,
      k.spelled,
    ) refl

-- ---- instructions

no_colon : (os : List Operand) (ts : List Token) → IsParted os ts → AreOperands ts os → is_colon ts ≡ false
unfolding is_colon
no_colon [] ts parted are = rw are refl
no_colon (o ∷ os) ts parted are = rw parted refl

no_label : (t : Token) (ts : List Token) → is_colon ts ≡ false → label_in (t ∷ ts) ≡ None
unfolding label_in name_at
no_label t ts h = by_name (is_identifier t.text) t.text
  where
    by_name : (b : Bool) (text : List ℕ) → ◌>>=◌ {A = List ℕ × List Token} {B = List ℕ} (guard b (text, ts))
        (λ n. guard (is_colon n.1) n.0) ≡ None
    by_name true text = rw h refl
    by_name false text = refl

line_there : (ts : List Token) (comment : List ℕ) (line : Line) → instr_in ts ≡ Some line.instr
    → owner_in comment ≡ line.owner → line_in ts comment ≡ Some line
unfolding line_in
line_there ts comment line e o = rw (e, o) refl

code_read : (ts : List Token) (comment : List ℕ) (line : Line) → IsInstr ts line.instr → IsOwner comment line.owner
    → full_item ts comment ≡ Some (code line)
unfolding full_item
code_read ts comment line k owner =
    let t = k.mnemonic.first in
    let dot : begins_dot t.text ≡ false = ap begins_dot (sym k.mnemonic.spelled)
    ∙ mnemonic_no_dot (mnemonic_of line.instr) in
    let found : line_in (t ∷ k.rest) comment ≡ Some line =
    ap (λ us. line_in us comment) (sym k.mnemonic.is)
    ∙ line_there ts comment line (instr_read ts line.instr k) (owner_read comment line.owner owner) in
    rw (
      k.mnemonic.is,
      no_syntax t.spaced t.text k.rest dot,
      no_text t.spaced t.text k.rest dot,
      no_global t.spaced t.text k.rest dot,
      no_label t k.rest (no_colon (operands_of line.instr) k.rest k.parted k.operands),
      found,
    ) refl

-- ---- items

line_read : (ts : List Token) (comment : List ℕ) (i : Item) → IsLine ts comment i
    → (if is_end ts then Some blank else full_item ts comment) ≡ Some i
line_read ts comment blank k = rw k refl
line_read [] comment syntax_line k = cc
line_read (t ∷ ts) comment syntax_line k = syntax_read (t ∷ ts) comment k
line_read [] comment text_line k = cc
line_read (t ∷ ts) comment text_line k = text_read (t ∷ ts) comment k
line_read [] comment (global name) k = let e : texts [] ≡ codes ".globl" ∷ name ∷ [] = k.0 in cc
line_read (t ∷ ts) comment (global name) k = global_read (t ∷ ts) comment name k.0 k.1
line_read [] comment (label name) k = let e : [] ≡ k.first ∷ token false (codes ":") ∷ [] = k.is in cc
line_read (t ∷ ts) comment (label name) k = label_read (t ∷ ts) comment name k
line_read [] comment (code line) k = let e : [] ≡ k.0.mnemonic.first ∷ k.0.rest = k.0.mnemonic.is in cc
line_read (t ∷ ts) comment (code line) k = code_read (t ∷ ts) comment line k.0 k.1

pub item_read : (line : List ℕ) (i : Item) → IsItem line i → item_in line ≡ Some i
unfolding item_in
item_read line i k = line_read (tokens (code_part line)) (comment_part line) i k

pick_true : {A : Type 0} (o : Option A) (f : A → Bool) (P : Type 0) → ((x : A) → o ≡ Some x → f x ≡ true → P)
    → pick o f false ≡ true → P
pick_true None f P next e = cc
pick_true (Some x) f P next e = next x refl e

-- two tokens with nothing behind them
two_found : (a b : List ℕ) (ts us vs : List Token) → IsToken a ts us → IsToken b us vs → vs ≡ [] → texts ts ≡ a ∷ b ∷ []
two_found a b ts us vs k l e = ap texts (k.is ∙ ap (λ q. k.first ∷ q) (l.is ∙ ap (λ q. l.first ∷ q) e))
    ∙ rw (sym k.spelled, sym l.spelled) refl

syntax_found : (ts : List Token) → is_syntax_line ts ≡ true → texts ts ≡ codes ".intel_syntax" ∷ codes "noprefix" ∷ []
unfolding is_syntax_line syntax_rest
syntax_found ts e =
    pick_true (after (codes ".intel_syntax") ts >>= after (codes "noprefix")) is_end _ (λ rest is last.
    bind_then (after (codes ".intel_syntax") ts) (after (codes "noprefix")) rest
    (texts ts ≡ codes ".intel_syntax" ∷ codes "noprefix" ∷ []) (λ us at is.
    two_found (codes ".intel_syntax") (codes "noprefix") ts us rest (token_found _ ts us at) (token_found _ us rest is)
    (end_nil rest last)) is) e

text_found : (ts : List Token) → is_text_line ts ≡ true → texts ts ≡ codes ".text" ∷ []
unfolding is_text_line
text_found ts e =
    pick_true (after (codes ".text") ts) is_end _ (λ rest is last.
    let k = token_found (codes ".text") ts rest is in
    ap texts (k.is ∙ ap (λ q. k.first ∷ q) (end_nil rest last)) ∙ rw (sym k.spelled) refl) e

record Named (ts : List Token) (p : List ℕ × List Token) : Type 0 where
  first : Token
  is : ts ≡ first ∷ p.1
  spelled : p.0 ≡ first.text
  identifier : is_identifier p.0 ≡ true

name_found : (ts : List Token) (p : List ℕ × List Token) → name_at ts ≡ Some p → Named ts p
unfolding name_at
name_found [] p e = cc
name_found (t ∷ ts) p e =
    let h = guard_some (is_identifier t.text) (t.text, ts) p e in
    subst (Named (t ∷ ts)) h.1 (record { first = t; is = refl; spelled = refl; identifier = h.0 })

global_found : (ts : List Token) (name : List ℕ) → global_in ts ≡ Some name
    → (texts ts ≡ codes ".globl" ∷ name ∷ []) × (is_identifier name ≡ true)
unfolding global_in
global_found ts name e =
    bind_then (after (codes ".globl") ts >>= name_at) _ name
    ((texts ts ≡ codes ".globl" ∷ name ∷ []) × (is_identifier name ≡ true)) (λ p is last.
    let h = guard_some (is_end p.1) p.0 name last in
    bind_then (after (codes ".globl") ts) name_at p
    ((texts ts ≡ codes ".globl" ∷ name ∷ []) × (is_identifier name ≡ true)) (λ us at is.
    let k = token_found (codes ".globl") ts us at in
    let n = name_found us p is in
    let second : IsToken name us p.1 = record { first = n.first; is = n.is; spelled = sym h.1 ∙ n.spelled } in
    (two_found (codes ".globl") name ts us p.1 k second (end_nil p.1 h.0), ap is_identifier (sym h.1) ∙ n.identifier))
    is) e

colon_found : (ts : List Token) → is_colon ts ≡ true → ts ≡ token false (codes ":") ∷ []
unfolding is_colon
colon_found [] e = cc
colon_found (t ∷ ts) e = by_blank t.spaced refl (pick (after (codes ":") (t ∷ ts)) is_end false) refl e
  where
    by_blank : (b : Bool) → t.spaced ≡ b → (c : Bool) → pick (after (codes ":") (t ∷ ts)) is_end false ≡ c
        → (not b && c) ≡ true → t ∷ ts ≡ token false (codes ":") ∷ []
    by_blank true gap c is e = cc
    by_blank false gap false is e = cc
    by_blank false gap true is e =
        pick_true (after (codes ":") (t ∷ ts)) is_end (t ∷ ts ≡ token false (codes ":") ∷ []) (λ rest at last.
        let k = token_found (codes ":") (t ∷ ts) rest at in
        let same : t ≡ k.first = (let e : t ∷ ts ≡ k.first ∷ rest = k.is in cc) in
        let behind : ts ≡ rest = (let e : t ∷ ts ≡ k.first ∷ rest = k.is in cc) in
        let spelled : t.text ≡ codes ":" = ap (λ u. u.text) same ∙ sym k.spelled in
        rw (behind ∙ end_nil rest last) (ap (λ u. u ∷ []) (ap (λ b. token b t.text) gap ∙ ap (token false) spelled))) is

label_found : (ts : List Token) (name : List ℕ) → label_in ts ≡ Some name → IsLabel ts name
unfolding label_in
label_found ts name e =
    bind_then (name_at ts) _ name (IsLabel ts name) (λ p is e.
    let h = guard_some (is_colon p.1) p.0 name e in
    let n = name_found ts p is in
    subst (IsLabel ts) h.1 (record {
      first = n.first;
      is = n.is ∙ ap (λ q. n.first ∷ q) (colon_found p.1 h.0);
      spelled = n.spelled;
      identifier = n.identifier;
    })) e

code_found : (ts : List Token) (comment : List ℕ) (line : Line) → line_in ts comment ≡ Some line
    → IsInstr ts line.instr × IsOwner comment line.owner
unfolding line_in
code_found ts comment line e =
    bind_then (instr_in ts) _ line (IsInstr ts line.instr × IsOwner comment line.owner) (λ i at e.
    let same : record { instr = i; owner = owner_in comment } ≡ line = cc in
    subst (λ l. IsInstr ts l.instr × IsOwner comment l.owner) same
    (instr_found ts i at, owner_is comment (owner_in comment) refl)) e

full_found : (ts : List Token) (comment : List ℕ) (i : Item) → full_item ts comment ≡ Some i → IsLine ts comment i
unfolding full_item
full_found ts comment i e = by_syntax (is_syntax_line ts) refl e
  where
    by_name : pick (global_in ts) (λ name. Some (global name))
        (pick (label_in ts) (λ name. Some (label name)) (line_in ts comment >>= (λ line. Some (code line)))) ≡ Some i
        → IsLine ts comment i
    by_name e =
        pick_then (global_in ts) _ _ i (IsLine ts comment i)
        (λ name at e. let same : global name ≡ i = cc in subst (IsLine ts comment) same (global_found ts name at))
        (λ gone e.
        pick_then (label_in ts) _ _ i (IsLine ts comment i)
        (λ name at e. let same : label name ≡ i = cc in subst (IsLine ts comment) same (label_found ts name at))
        (λ gone e.
        bind_then (line_in ts comment) _ i (IsLine ts comment i)
        (λ line at e. let same : code line ≡ i = cc in
        subst (IsLine ts comment) same (code_found ts comment line at)) e) e) e

    by_text : (b : Bool) → is_text_line ts ≡ b
        → (if b then Some text_line else pick (global_in ts) (λ name. Some (global name))
        (pick (label_in ts) (λ name. Some (label name)) (line_in ts comment >>= (λ line. Some (code line))))) ≡ Some i
        → IsLine ts comment i
    by_text true is e = let same : text_line ≡ i = cc in subst (IsLine ts comment) same (text_found ts is)
    by_text false is e = by_name e

    by_syntax : (b : Bool) → is_syntax_line ts ≡ b
        → (if b then Some syntax_line else (if is_text_line ts then Some text_line else
        pick (global_in ts) (λ name. Some (global name))
        (pick (label_in ts) (λ name. Some (label name)) (line_in ts comment >>= (λ line. Some (code line)))))) ≡ Some i
        → IsLine ts comment i
    by_syntax true is e = let same : syntax_line ≡ i = cc in subst (IsLine ts comment) same (syntax_found ts is)
    by_syntax false is e = by_text (is_text_line ts) refl e

line_found : (ts : List Token) (comment : List ℕ) (i : Item)
    → (if is_end ts then Some blank else full_item ts comment) ≡ Some i → IsLine ts comment i
line_found [] comment i e = let same : blank ≡ i = cc in subst (IsLine [] comment) same refl
line_found (t ∷ ts) comment i e = full_found (t ∷ ts) comment i e

pub item_found : (line : List ℕ) (i : Item) → item_in line ≡ Some i → IsItem line i
unfolding item_in
item_found line i e = line_found (tokens (code_part line)) (comment_part line) i e
