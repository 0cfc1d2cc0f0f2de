-- The header lines of a text that is written are its items.
use Rattle.std.proofs.Common.{◌≡◌, ℕ, true, false, ◌==◌, List, [], ◌∷◌, ◌++◌, Some, codes, refl, subst, arith, inl, inr}
use Rattle.std.specs.List.{list_all}
use Rattle.std.proofs.lemmas.Bool.{and_parts, and_from}
use Rattle.std.proofs.lemmas.Bool.Decides.{nat_tests}
use Rattle.std.proofs.lemmas.List.{append-nil}
use Rattle.base.specs.Identifiers.{is_identifier, is_name_start, is_name_byte}
use Rattle.asm_tokens.specs.Tokens.{Token, token, tokens, is_word_byte}
use Rattle.asm_tokens.proofs.Spell.{Fine, is_word, is_plain, is_inline, tokens_spell, plain_spell, plain_inline}
use Rattle.asm_tokens.proofs.LineText.{code_alone, comment_none}
use Rattle.asm_text.specs.Items.{syntax_line, text_line, global, label, name_at, syntax_rest, is_syntax_line}
use Rattle.asm_text.specs.Items.{is_text_line, global_in, is_colon, label_in, full_item, item_in}
use Rattle.asm_text.proofs.NamesBack.{begins_dot}
use Rattle.asm_text.proofs.LinesBack.{no_syntax, no_text, no_global, tokens_none}

start_word : (b : ℕ) → is_name_start b ≡ true → is_word_byte b ≡ true
start_word b h = grind (arith, nat_tests)

byte_word : (b : ℕ) → is_name_byte b ≡ true → is_word_byte b ≡ true
byte_word b h = grind (arith, nat_tests)

bytes_word : (bs : List ℕ) → list_all is_name_byte bs ≡ true → list_all is_word_byte bs ≡ true
bytes_word [] h = refl
bytes_word (b ∷ bs) h = let parts = and_parts (is_name_byte b) (list_all is_name_byte bs) h in
    and_from (is_word_byte b) (list_all is_word_byte bs) (byte_word b parts.0) (bytes_word bs parts.1)

pub name_word : (name : List ℕ) → is_identifier name ≡ true → is_word name ≡ true
unfolding is_identifier
name_word [] h = h
name_word (b ∷ bs) h =
    let parts = and_parts (is_name_start b) _ h in
    and_from (is_word_byte b) (list_all is_word_byte bs) (start_word b parts.0)
    (bytes_word bs (and_parts (list_all is_name_byte bs) _ parts.1).0)

start_no_dot : (b : ℕ) → is_name_start b ≡ true → (b == 46) ≡ false
start_no_dot b h = grind (arith, nat_tests)

pub name_no_dot : (name : List ℕ) → is_identifier name ≡ true → begins_dot name ≡ false
unfolding is_identifier
name_no_dot [] h = refl
name_no_dot (b ∷ bs) h = start_no_dot b (and_parts (is_name_start b) _ h).0

label_fine : (name : List ℕ) → is_identifier name ≡ true → Fine (token false name ∷ token false (codes ":") ∷ [])
label_fine name h = (inr (name_word name h, refl), (inl refl, tt))

label_there : (name : List ℕ) → is_identifier name ≡ true
    → label_in (token false name ∷ token false (codes ":") ∷ []) ≡ Some name
unfolding label_in name_at is_colon
label_there name h = rw h refl

pub label_back : (name : List ℕ) → is_identifier name ≡ true → item_in (name ++ codes ":") ≡ Some (label name)
unfolding item_in full_item
label_back name h =
    let fine = label_fine name h in
    let plain : list_all is_plain (name ++ codes ":") ≡ true =
    plain_spell (token false name ∷ token false (codes ":") ∷ []) [] fine refl in
    let read : tokens (name ++ codes ":") ≡ token false name ∷ token false (codes ":") ∷ [] =
    tokens_spell (token false name ∷ token false (codes ":") ∷ []) [] fine tokens_none in
    let dot = name_no_dot name h in
    let rest : List Token = token false (codes ":") ∷ [] in
    rw (
      code_alone (name ++ codes ":") plain,
      comment_none (name ++ codes ":") plain,
      read,
      no_syntax false name rest dot,
      no_text false name rest dot,
      no_global false name rest dot,
      label_there name h,
    )
    refl

pub label_inline : (name : List ℕ) → is_identifier name ≡ true → list_all is_inline (name ++ codes ":") ≡ true
label_inline name h = plain_inline (name ++ codes ":")
    (plain_spell (token false name ∷ token false (codes ":") ∷ []) [] (label_fine name h) refl)

global_fine : (name : List ℕ) → is_identifier name ≡ true → Fine (token false (codes ".globl") ∷ token true name ∷ [])
global_fine name h = (inr (refl, refl), (inr (name_word name h, refl), tt))

global_plain : (name : List ℕ) → is_identifier name ≡ true → list_all is_plain (codes ".globl " ++ name) ≡ true
global_plain name h =
    let P : List ℕ → Type 0 = λ x. list_all is_plain (codes ".globl " ++ x) ≡ true in
    subst P (append-nil name) (plain_spell (token false (codes ".globl") ∷ token true name ∷ []) []
    (global_fine name h) refl)

global_tokens : (name : List ℕ) → is_identifier name ≡ true
    → tokens (codes ".globl " ++ name) ≡ token false (codes ".globl") ∷ token true name ∷ []
global_tokens name h =
    let P : List ℕ → Type 0 = λ x. tokens (codes ".globl " ++ x) ≡ token false (codes ".globl") ∷ token true name
    ∷ [] in
    subst P (append-nil name) (tokens_spell (token false (codes ".globl") ∷ token true name ∷ []) []
    (global_fine name h) tokens_none)

pub global_back : (name : List ℕ) → is_identifier name ≡ true → item_in (codes ".globl " ++ name) ≡ Some (global name)
unfolding item_in full_item is_syntax_line syntax_rest is_text_line global_in name_at
global_back name h =
    let plain = global_plain name h in
    rw (
      code_alone (codes ".globl " ++ name) plain,
      comment_none (codes ".globl " ++ name) plain,
      global_tokens name h,
      h,
    ) refl

pub global_inline : (name : List ℕ) → is_identifier name ≡ true → list_all is_inline (codes ".globl " ++ name) ≡ true
global_inline name h = plain_inline (codes ".globl " ++ name) (global_plain name h)

pub syntax_back : item_in (codes ".intel_syntax noprefix") ≡ Some syntax_line
unfolding item_in full_item is_syntax_line syntax_rest tokens
syntax_back = refl

pub text_back : item_in (codes ".text") ≡ Some text_line
unfolding item_in full_item is_syntax_line syntax_rest is_text_line tokens
text_back = refl
