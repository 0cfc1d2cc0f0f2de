-- The reading line by line reads exactly what the relation says.
use Rattle.std.proofs.Common.{◌≡◌, ℕ, Bool, true, false, cond, List, [], ◌∷◌, ◌++◌, Option, Some, None, refl, sym, ◌∙◌}
use Rattle.std.proofs.Common.{ap, subst, map, filter, append_assoc}
use Rattle.std.specs.Str.{bytes_eq}
use Rattle.std.proofs.lemmas.List.{append-nil}
use Rattle.std.proofs.lemmas.Slice.Eq.{bytes_eq-Decides}
use Rattle.x86_instr.specs.declared.line.Line.{Line}
use Rattle.x86_instr.specs.Listings.{NamedLines}
use Rattle.base.specs.Options.{◌>>=◌, pick}
use Rattle.asm_tokens.proofs.FirstFault.{reach, finished}
use Rattle.asm_text.specs.Items.{Item, blank, syntax_line, text_line, global, label, code, item_in}
use Rattle.asm_text.specs.Reading.{Stage, start, syntax, text, named, body, Progress, state, step, step_by, done}
use Rattle.asm_text.specs.Texts.{is_full, AreItems, Stands}
use Rattle.asm_text.proofs.ItemsBoth.{item_read, item_found}

abbrev pub listing : List ℕ → List Line → NamedLines
listing name found = record { name = name; lines = found }

-- what a list of items gives, from a state on
abbrev pub run : Progress → List Item → Option NamedLines
run s [] = done s
run s (i ∷ is) = step_by s i >>= (λ t. run t is)

bind_step : (o : Option Item) (s : Progress) (ls : List (List ℕ)) (P : Type 0) (v : NamedLines)
    → ((i : Item) → o ≡ Some i → ((step_by s i >>= (λ t. reach step t ls)) >>= done) ≡ Some v → P)
    → (((o >>= step_by s) >>= (λ t. reach step t ls)) >>= done) ≡ Some v → P
bind_step None s ls P v next e = cc
bind_step (Some i) s ls P v next e = next i refl e

to_state : (o : Option Progress) (ls : List (List ℕ)) (P : Type 0) (v : NamedLines)
    → ((t : Progress) → o ≡ Some t → finished step done t ls ≡ Some v → P)
    → ((o >>= (λ t. reach step t ls)) >>= done) ≡ Some v → P
to_state None ls P v next e = cc
to_state (Some t) ls P v next e = next t refl e

-- lines that stand for something are items
pub lines_run : (ls : List (List ℕ)) (s : Progress) (v : NamedLines) → finished step done s ls ≡ Some v
    → (is : List Item) × AreItems ls is × (run s is ≡ Some v)
lines_run [] s v e = ([], tt, e)
lines_run (l ∷ ls) s v e = bind_step (item_in l) s ls _ v (λ i is rest. to_state (step_by s i) ls _ v (λ t moves more.
    let h = lines_run ls t v more in
    (i ∷ h.0, (item_found l i is, h.1), rw moves h.2)) rest) e

run_lines : (ls : List (List ℕ)) (is : List Item) (s : Progress) (v : NamedLines) → AreItems ls is → run s is ≡ Some v
    → finished step done s ls ≡ Some v
run_lines [] [] s v each e = e
run_lines [] (i ∷ is) s v each e = absurd each
run_lines (l ∷ ls) [] s v each e = absurd each
run_lines (l ∷ ls) (i ∷ is) s v each e = rw (item_read l i each.0)
    (go (step_by s i) ls is v (λ t. run_lines ls is t v each.1) e)
  where
    go : (o : Option Progress) (ls : List (List ℕ)) (is : List Item) (v : NamedLines)
        → ((t : Progress) → run t is ≡ Some v → finished step done t ls ≡ Some v) → (o >>= (λ t. run t is)) ≡ Some v
        → ((o >>= (λ t. reach step t ls)) >>= done) ≡ Some v
    go None ls is v next e = cc
    go (Some t) ls is v next e = next t e

-- the header lines that are wanted at a stage
abbrev pub header : Stage → List ℕ → List Item
header start name = syntax_line ∷ text_line ∷ global name ∷ label name ∷ []
header syntax name = text_line ∷ global name ∷ label name ∷ []
header text name = global name ∷ label name ∷ []
header (named other) name = label name ∷ []
header (body other) name = []

abbrev pub Agrees : Stage → List ℕ → Type 0
Agrees start name = Unit {0}
Agrees syntax name = Unit {0}
Agrees text name = Unit {0}
Agrees (named other) name = other ≡ name
Agrees (body other) name = other ≡ name

-- what the items that are left are
pub record Rest (s : Stage) (found : List Line) (is : List Item) (v : NamedLines) : Type 0 where
  pub more : List Line
  pub lines : v.lines ≡ found ++ more
  pub agrees : Agrees s v.name
  pub order : filter is_full is ≡ header s v.name ++ map code more

on_label : (b : Bool) (name other : List ℕ) (found : List Line) (is : List Item) (v : NamedLines)
    → ((b ≡ true) → name ≡ other)
    → (run (state (body name) found) is ≡ Some v → Rest (body name) found is v)
    → (pick (cond b (Some (body name)) None) (λ t. Some (state t found)) None >>= (λ t. run t is)) ≡ Some v
    → Rest (named name) found (label other ∷ is) v
on_label false name other found is v same next e = cc
on_label true name other found is v same next e =
    let r = next e in
    let agree : name ≡ v.name = r.agrees in
    record {
      more = r.more;
      lines = r.lines;
      agrees = agree;
      order = ap (λ rest. label other ∷ rest) r.order ∙ rw (sym (same refl) ∙ agree) refl;
    }

on_global : (name : List ℕ) (found : List Line) (is : List Item) (v : NamedLines) → Rest (named name) found is v
    → Rest text found (global name ∷ is) v
on_global name found is v r = record {
  more = r.more;
  lines = r.lines;
  agrees = tt;
  order = ap (λ rest. global name ∷ rest) r.order ∙ ap (λ n. global n ∷ label v.name ∷ map code r.more) r.agrees;
}

pub runs_rest : (is : List Item) (s : Stage) (found : List Line) (v : NamedLines) → run (state s found) is ≡ Some v
    → Rest s found is v
runs_rest [] (body name) found v e =
    let P : NamedLines → Type 0 = λ w. Rest (body name) found [] w in
    let same : listing name found ≡ v = cc in
    subst P same (record { more = []; lines = sym (append-nil found); agrees = refl; order = refl })
runs_rest [] start found v e = cc
runs_rest [] syntax found v e = cc
runs_rest [] text found v e = cc
runs_rest [] (named name) found v e = cc
runs_rest (blank ∷ is) s found v e =
    let r = runs_rest is s found v e in record { more = r.more; lines = r.lines; agrees = r.agrees; order = r.order }
runs_rest (syntax_line ∷ is) start found v e =
    let r = runs_rest is syntax found v e in
    record { more = r.more; lines = r.lines; agrees = tt; order = ap (λ rest. syntax_line ∷ rest) r.order }
runs_rest (text_line ∷ is) syntax found v e =
    let r = runs_rest is text found v e in record {
      more = r.more;
      lines = r.lines;
      agrees = tt;
      order = ap (λ rest. text_line ∷ rest) r.order;
    }
runs_rest (global name ∷ is) text found v e = on_global name found is v (runs_rest is (named name) found v e)
runs_rest (label other ∷ is) (named name) found v e =
    on_label (bytes_eq name other) name other found is v (λ h. (bytes_eq-Decides name other).0 h)
    (λ h. runs_rest is (body name) found v h) e
runs_rest (code line ∷ is) (body name) found v e =
    let r = runs_rest is (body name) (found ++ line ∷ []) v e in
    record {
      more = line ∷ r.more;
      lines = r.lines ∙ append_assoc found (line ∷ []) r.more;
      agrees = r.agrees;
      order = ap (λ rest. code line ∷ rest) r.order;
    }
runs_rest (i ∷ is) s found v e = cc

-- lines that stand for something do so by the relation
pub finished_stands : (ls : List (List ℕ)) (v : NamedLines) → finished step done (state start []) ls ≡ Some v
    → Stands ls v
finished_stands ls v e =
    let h = lines_run ls (state start []) v e in
    let r = runs_rest h.0 start [] v h.2 in
    record {
      items = h.0;
      each = h.1;
      order = r.order
          ∙ ap (λ found. syntax_line ∷ text_line ∷ global v.name ∷ label v.name ∷ map code found) (sym r.lines);
    }

pub rest_runs : (is : List Item) (s : Stage) (found more : List Line) (name : List ℕ)
    → filter is_full is ≡ header s name ++ map code more → Agrees s name
    → run (state s found) is ≡ Some (listing name (found ++ more))
rest_runs [] (body other) found [] name order agrees = rw (append-nil found, agrees) refl
rest_runs [] (body other) found (line ∷ more) name order agrees = cc
rest_runs [] start found more name order agrees = cc
rest_runs [] syntax found more name order agrees = cc
rest_runs [] text found more name order agrees = cc
rest_runs [] (named other) found more name order agrees = cc
rest_runs (blank ∷ is) s found more name order agrees = rest_runs is s found more name order agrees
rest_runs (syntax_line ∷ is) start found more name order agrees =
    let h : filter is_full is ≡ header syntax name ++ map code more = cc in rest_runs is syntax found more name h tt
rest_runs (text_line ∷ is) syntax found more name order agrees =
    let h : filter is_full is ≡ header text name ++ map code more = cc in rest_runs is text found more name h tt
rest_runs (global given ∷ is) text found more name order agrees =
    let same : given ≡ name = cc in
    let h : filter is_full is ≡ header (named given) name ++ map code more = cc in
    rest_runs is (named given) found more name h same
rest_runs (label given ∷ is) (named other) found more name order agrees =
    let is_other : other ≡ given = (let same : given ≡ name = cc in let agree : other ≡ name = agrees in cc) in
    let h : filter is_full is ≡ header (body other) name ++ map code more = cc in
    rw ((bytes_eq-Decides other given).1 is_other) (rest_runs is (body other) found more name h agrees)
rest_runs (code line ∷ is) (body other) found (first ∷ more) name order agrees =
    let same : line ≡ first = cc in
    let h : filter is_full is ≡ map code more = cc in
    rest_runs is (body other) (found ++ line ∷ []) more name h agrees ∙ rw (append_assoc, same) refl
rest_runs (i ∷ is) (body other) found [] name order agrees = cc
rest_runs (i ∷ is) (body other) found (first ∷ more) name order agrees = cc
rest_runs (i ∷ is) s found more name order agrees = cc

pub stands_finished : (ls : List (List ℕ)) (v : NamedLines) → Stands ls v
    → finished step done (state start []) ls ≡ Some v
stands_finished ls v s = run_lines ls s.items (state start []) v s.each
    (rest_runs s.items start [] v.lines v.name s.order tt)
