-- The text of a listing is read back.
use Rattle.std.proofs.Common.{◌≡◌, ℕ, true, List, [], ◌∷◌, ◌++◌, map, filter, codes, Ok, refl, sym, ◌∙◌, ap, subst}
use Rattle.std.proofs.Common.{append_assoc}
use Rattle.std.specs.List.{flat_map}
use Rattle.std.specs.Str.Lines.{lines}
use Rattle.base.specs.Identifiers.{is_identifier}
use Rattle.x86_instr.specs.declared.line.Line.{Line}
use Rattle.x86_instr.specs.Listings.{NamedLines}
use Rattle.asm_tokens.proofs.LineText.{lines_front}
use Rattle.asm_text.specs.Items.{syntax_line, text_line, global, label, code}
use Rattle.asm_text.specs.Reading.{read_text}
use Rattle.asm_text.specs.Texts.{AreItems, is_full, whole, Stands}
use Rattle.asm_text.specs.Assembly.{line_text, header_text, text_of}
use Rattle.x86_instr.specs.Fits.{FitsLines}
use Rattle.asm_text.proofs.Outcome.{stands_read}
use Rattle.asm_text.proofs.ItemsBoth.{item_found}
use Rattle.asm_text.proofs.LinesBack.{bare, line_back, line_inline}
use Rattle.asm_text.proofs.HeaderBack.{label_back, label_inline, global_back, global_inline, syntax_back, text_back}

one_line : (line : Line) (more : List ℕ) → line_text line ++ more ≡ bare line ++ 10 ∷ more
unfolding line_text
one_line line more = simp append_assoc

body_lines : (found : List Line) → FitsLines found → lines (flat_map line_text found) ≡ map bare found
body_lines [] fits = refl
body_lines (line ∷ found) fits =
    ap lines (one_line line (flat_map line_text found))
    ∙ (lines_front (bare line) (flat_map line_text found) (line_inline line.instr line.owner fits.0 fits.1)
    ∙ ap (λ ls. bare line ∷ ls) (body_lines found fits.2))

abbrev header_lines : List ℕ → List (List ℕ) → List (List ℕ)
header_lines name rest = codes ".intel_syntax noprefix" ∷ codes ".text" ∷ (codes ".globl " ++ name)
    ∷ (name ++ codes ":") ∷ rest

whole_text : (v : NamedLines) → text_of v ≡ codes ".intel_syntax noprefix" ++ 10
    ∷ (codes ".text" ++ 10 ∷ ((codes ".globl " ++ v.name) ++ 10
    ∷ ((v.name ++ codes ":") ++ 10 ∷ flat_map line_text v.lines)))
unfolding text_of header_text
whole_text v = simp append_assoc

text_lines : (v : NamedLines) → is_identifier v.name ≡ true → FitsLines v.lines
    → lines (text_of v) ≡ header_lines v.name (map bare v.lines)
text_lines v name fits =
    let body = flat_map line_text v.lines in
    let l4 = lines_front (v.name ++ codes ":") body (label_inline v.name name)
    ∙ ap (λ ls. (v.name ++ codes ":") ∷ ls) (body_lines v.lines fits) in
    let l3 = lines_front (codes ".globl " ++ v.name) ((v.name ++ codes ":") ++ 10 ∷ body) (global_inline v.name name)
    ∙ ap (λ ls. (codes ".globl " ++ v.name) ∷ ls) l4 in
    let l2 = lines_front (codes ".text") ((codes ".globl " ++ v.name) ++ 10 ∷ ((v.name ++ codes ":") ++ 10 ∷ body))
    refl ∙ ap (λ ls. codes ".text" ∷ ls) l3 in
    ap lines (whole_text v)
    ∙ (lines_front (codes ".intel_syntax noprefix")
    (codes ".text" ++ 10 ∷ ((codes ".globl " ++ v.name) ++ 10 ∷ ((v.name ++ codes ":") ++ 10 ∷ body))) refl
    ∙ ap (λ ls. codes ".intel_syntax noprefix" ∷ ls) l2)

body_items : (found : List Line) → FitsLines found → AreItems (map bare found) (map code found)
body_items [] fits = tt
body_items (line ∷ found) fits = (
  item_found (bare line) (code line) (line_back line.instr line.owner fits.0 fits.1),
  body_items found fits.2,
)

all_full : (found : List Line) → filter is_full (map code found) ≡ map code found
all_full [] = refl
all_full (line ∷ found) = ap (λ is. code line ∷ is) (all_full found)

header_stands : (v : NamedLines) → is_identifier v.name ≡ true → FitsLines v.lines
    → Stands (header_lines v.name (map bare v.lines)) v
header_stands v name fits = record {
  items = whole v;
  each = (
    item_found (codes ".intel_syntax noprefix") syntax_line syntax_back,
    (
      item_found (codes ".text") text_line text_back,
      (
        item_found (codes ".globl " ++ v.name) (global v.name) (global_back v.name name),
        (
          item_found (v.name ++ codes ":") (label v.name) (label_back v.name name),
          body_items v.lines fits,
        ),
      ),
    ),
  );
  order = ap (λ is. syntax_line ∷ text_line ∷ global v.name ∷ label v.name ∷ is) (all_full v.lines);
}

pub text_stands : (v : NamedLines) → is_identifier v.name ≡ true → FitsLines v.lines → Stands (lines (text_of v)) v
text_stands v name fits =
    let P : List (List ℕ) → Type 0 = λ ls. Stands ls v in
    subst P (sym (text_lines v name fits)) (header_stands v name fits)

pub reads_back : (v : NamedLines) → is_identifier v.name ≡ true → FitsLines v.lines → read_text (text_of v) ≡ Ok v
reads_back v name fits = stands_read (text_of v) v (text_stands v name fits)
