-- Each state that a reading comes to can go on to the end of a whole text.
use Rattle.std.proofs.Common.{◌≡◌, ℕ, Bool, true, false, cond, List, [], ◌∷◌, ◌++◌, Option, Some, None, codes, refl}
use Rattle.std.proofs.Common.{◌∙◌, ap, subst}
use Rattle.std.specs.Str.{bytes_eq}
use Rattle.std.proofs.lemmas.Slice.Eq.{bytes_eq-Decides}
use Rattle.base.proofs.Options.{bind_then, guard_some}
use Rattle.base.specs.Identifiers.{is_identifier}
use Rattle.x86_instr.specs.declared.line.Line.{Line}
use Rattle.x86_instr.specs.Listings.{NamedLines}
use Rattle.base.specs.Options.{◌>>=◌, pick, guard}
use Rattle.asm_tokens.specs.Tokens.{Token, tokens, after}
use Rattle.asm_tokens.specs.Lines.{code_part, comment_part}
use Rattle.asm_tokens.proofs.FirstFault.{reach, finished}
use Rattle.asm_text.specs.Instructions.{is_end}
use Rattle.asm_text.specs.Items.{Item, blank, syntax_line, text_line, global, label, code, name_at, is_syntax_line}
use Rattle.asm_text.specs.Items.{is_text_line, global_in, label_in, line_in, full_item, item_in}
use Rattle.asm_text.specs.Reading.{Stage, Progress, state, start, syntax, text, named, body, step, step_by, done}
use Rattle.asm_text.specs.Reading.{next_stage}
use Rattle.asm_text.proofs.Relation.{listing}
use Rattle.asm_text.proofs.HeaderBack.{label_back, global_back, syntax_back, text_back}

-- the name that a stage waits for is an identifier
abbrev pub Good : Stage → Type 0
Good start = Unit {0}
Good syntax = Unit {0}
Good text = Unit {0}
Good (named name) = is_identifier name ≡ true
Good (body name) = Unit {0}

name_part : List ℕ → Option (List ℕ × List Token) → List ℕ
name_part given None = given
name_part given (Some p) = p.0

held : (b : Bool) (given : List ℕ) (rest : List Token) (p : List ℕ × List Token) → is_identifier given ≡ b
    → guard b (given, rest) ≡ Some p → is_identifier p.0 ≡ true
unfolding name_part
held true given rest p is e = let P : List ℕ
    → Type 0 = λ n. is_identifier n ≡ true in subst P (ap (name_part given) e) is
held false given rest p is e = cc

named_token : (ts : List Token) (p : List ℕ × List Token) → name_at ts ≡ Some p → is_identifier p.0 ≡ true
unfolding name_at
named_token [] p e = cc
named_token (t ∷ ts) p e = held (is_identifier t.text) t.text ts p refl e

global_named : (ts : List Token) (name : List ℕ) → global_in ts ≡ Some name → is_identifier name ≡ true
unfolding global_in
global_named ts name e = bind_then (after (codes ".globl") ts >>= name_at) (λ n. guard (is_end n.1) n.0) name
    (is_identifier name ≡ true) (λ p is last.
    bind_then (after (codes ".globl") ts) name_at p (is_identifier name ≡ true) (λ rest found at.
    let P : List ℕ → Type 0 = λ n. is_identifier n ≡ true in
    subst P ((guard_some (is_end p.1) p.0 name last).1) (named_token rest p at)) is) e

by_full : (a b : Bool) (g l : Option (List ℕ)) (c : Option Line) (name : List ℕ)
    → cond a (Some syntax_line) (cond b (Some text_line)
    (pick g (λ n. Some (global n)) (pick l (λ n. Some (label n)) (c >>= (λ line. Some (code line)))))) ≡ Some
    (global name) → g ≡ Some name
by_full true b g l c name e = cc
by_full false true g l c name e = cc
by_full false false (Some n) l c name e = cc
by_full false false None (Some n) c name e = cc
by_full false false None None (Some line) name e = cc
by_full false false None None None name e = cc

full_named : (ts : List Token) (comment : List ℕ) (name : List ℕ) → full_item ts comment ≡ Some (global name)
    → is_identifier name ≡ true
unfolding full_item
full_named ts comment name e = global_named ts name
    (by_full (is_syntax_line ts) (is_text_line ts) (global_in ts) (label_in ts) (line_in ts comment) name e)

by_end : (b : Bool) (o : Option Item) (name : List ℕ) → cond b (Some blank) o ≡ Some (global name)
    → o ≡ Some (global name)
by_end true o name e = cc
by_end false o name e = e

item_named : (line : List ℕ) (name : List ℕ) → item_in line ≡ Some (global name) → is_identifier name ≡ true
unfolding item_in
item_named line name e = full_named (tokens (code_part line)) (comment_part line) name
    (by_end (is_end (tokens (code_part line))) (full_item (tokens (code_part line)) (comment_part line)) name e)

moved_good : (s t : Stage) (i : Item) → Good s → ((name : List ℕ) → i ≡ global name → is_identifier name ≡ true)
    → next_stage s i ≡ Some t → Good t
moved_good s t blank g named_well e = let P : Stage → Type 0 = λ u. Good u in let same : s ≡ t = cc in subst P same g
moved_good start t syntax_line g named_well e = let P : Stage
    → Type 0 = λ u. Good u in let same : syntax ≡ t = cc in subst P same tt
moved_good syntax t text_line g named_well e = let P : Stage
    → Type 0 = λ u. Good u in let same : text ≡ t = cc in subst P same tt
moved_good text t (global name) g named_well e = let P : Stage
    → Type 0 = λ u. Good u in let same : named name ≡ t = cc in subst P same (named_well name refl)
moved_good (named name) t (label other) g named_well e = on_label (bytes_eq name other) e
  where
    on_label : (b : Bool) → cond b (Some (body name)) None ≡ Some t → Good t
    on_label true e = let P : Stage → Type 0 = λ u. Good u in let same : body name ≡ t = cc in subst P same tt
    on_label false e = cc
moved_good (body name) t (code line) g named_well e = let P : Stage
    → Type 0 = λ u. Good u in let same : body name ≡ t = cc in subst P same tt
moved_good s t i g named_well e = cc

by_move : (o : Option Stage) (found : List Line) (t : Progress) (P : Type 0)
    → ((u : Stage) → o ≡ Some u → u ≡ t.stage → P) → pick o (λ u. Some (state u found)) None ≡ Some t → P
by_move None found t P next e = cc
by_move (Some u) found t P next e = let same : state u found ≡ t = cc in next u refl (ap (λ v. v.stage) same)

step_good : (s t : Progress) (line : List ℕ) → Good s.stage → step s line ≡ Some t → Good t.stage
step_good s t line g e = bind_then (item_in line) (step_by s) t (Good t.stage) (λ i is goes.
    by_move (next_stage s.stage i) _ t (Good t.stage) (λ u moves same.
    let P : Stage → Type 0 = λ v. Good v in
    subst P same (moved_good s.stage u i g (λ name this. item_named line name (is ∙ ap (λ x. Some x) this)) moves))
    goes) e

reach_good : (ls : List (List ℕ)) (s t : Progress) → Good s.stage → reach step s ls ≡ Some t → Good t.stage
reach_good [] s t g e = let P : Progress → Type 0 = λ u. Good u.stage in let same : s ≡ t = cc in subst P same g
reach_good (l ∷ ls) s t g e = bind_then (step s l) (λ u. reach step u ls) t (Good t.stage)
    (λ u is more. reach_good ls u t (step_good s u l g is) more) e

eq_self : (name : List ℕ) → bytes_eq name name ≡ true
eq_self name = (bytes_eq-Decides name name).1 refl

-- the lines that end a text from a stage on
from_named : (name : List ℕ) (found : List Line) → is_identifier name ≡ true
    → finished step done (state (named name) found) ((name ++ codes ":") ∷ []) ≡ Some (listing name found)
from_named name found g = rw (label_back name g, eq_self name) refl

from_text : (found : List Line) → finished step done (state text found)
    ((codes ".globl " ++ codes "f") ∷ (codes "f" ++ codes ":") ∷ []) ≡ Some (listing (codes "f") found)
unfolding is_identifier
from_text found = rw (global_back (codes "f") refl) (from_named (codes "f") found refl)

from_syntax : (found : List Line) → finished step done (state syntax found)
    (codes ".text" ∷ (codes ".globl " ++ codes "f") ∷ (codes "f" ++ codes ":") ∷ []) ≡ Some (listing (codes "f") found)
from_syntax found = rw text_back (from_text found)

from_start : (found : List Line) → finished step done (state start found)
    (codes ".intel_syntax noprefix" ∷ codes ".text" ∷ (codes ".globl " ++ codes "f") ∷ (codes "f" ++ codes ":") ∷ [])
    ≡ Some (listing (codes "f") found)
from_start found = rw syntax_back (from_syntax found)

from_stage : (s : Stage) (found : List Line) → Good s
    → (more : List (List ℕ)) × (v : NamedLines) × (finished step done (state s found) more ≡ Some v)
from_stage start found g = (
  codes ".intel_syntax noprefix" ∷ codes ".text" ∷ (codes ".globl " ++ codes "f")
      ∷ (codes "f" ++ codes ":") ∷ [],
  listing (codes "f") found,
  from_start found,
)
from_stage syntax found g = (
  codes ".text" ∷ (codes ".globl " ++ codes "f") ∷ (codes "f" ++ codes ":") ∷ [],
  listing (codes "f") found,
  from_syntax found,
)
from_stage text found g = (
  (codes ".globl " ++ codes "f") ∷ (codes "f" ++ codes ":") ∷ [],
  listing (codes "f") found,
  from_text found,
)
from_stage (named name) found g = ((name ++ codes ":") ∷ [], listing name found, from_named name found g)
from_stage (body name) found g = ([], listing name found, refl)

pub goes_on : (ls : List (List ℕ)) (t : Progress) → reach step (state start []) ls ≡ Some t
    → (more : List (List ℕ)) × (v : NamedLines) × (finished step done t more ≡ Some v)
goes_on ls t e = from_stage t.stage t.found (reach_good ls (state start []) t tt e)
