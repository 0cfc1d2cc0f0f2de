-- How the code reads; no part of a promise, but for the items. What one line of a text is, whatever stands before it.
-- `Grammar` says it by a relation.
use Rattle.std.specs.Prelude.{ℕ, Bool, false, not, ◌&&◌, List, [], ◌∷◌, Option, Some, None, if◌then◌else◌, nat_lt}
use Rattle.std.specs.Prelude.{codes}
use Rattle.base.specs.declared.limits.TheConstants.{MAX_OPERATIONS}
use Rattle.base.specs.Identifiers.{is_identifier}
use Rattle.x86_instr.specs.declared.line.Line.{Line}
use Rattle.base.specs.Options.{◌>>=◌, pick, guard}
use Rattle.asm_tokens.specs.Tokens.{Token, tokens, after, is_spaced}
use Rattle.asm_tokens.specs.Comments.{comment_number}
use Rattle.asm_tokens.specs.Lines.{code_part, comment_part}
use Rattle.asm_text.specs.Instructions.{is_end, instr_in}

-- a line with nothing but blanks and a comment, one of the four header lines, or an instruction
pub data Item : Type 0 where
  blank : Item
  syntax_line : Item
  text_line : Item
  global : List ℕ → Item
  label : List ℕ → Item
  code : Line → Item

-- the operation that a comment names: a decimal number of an operation, or none
unfoldable pub owner_in : List ℕ → Option ℕ
owner_in comment = comment_number comment >>= (λ n. guard (nat_lt n MAX_OPERATIONS) n)

-- an identifier that the tokens begin with, and the tokens behind it
unfoldable pub name_at : List Token → Option (List ℕ × List Token)
name_at [] = None
name_at (t ∷ ts) = guard (is_identifier t.text) (t.text, ts)

-- `.intel_syntax noprefix`
unfoldable pub syntax_rest : List Token → Option (List Token)
syntax_rest ts = after (codes ".intel_syntax") ts >>= after (codes "noprefix")

unfoldable pub is_syntax_line : List Token → Bool
is_syntax_line ts = pick (syntax_rest ts) is_end false

-- `.text`
unfoldable pub is_text_line : List Token → Bool
is_text_line ts = pick (after (codes ".text") ts) is_end false

-- `.globl NAME`
unfoldable pub global_in : List Token → Option (List ℕ)
global_in ts = after (codes ".globl") ts >>= name_at >>= (λ n. guard (is_end n.1) n.0)

-- the tokens are a colon before which no blank stands
unfoldable pub is_colon : List Token → Bool
is_colon ts = not (is_spaced ts) && pick (after (codes ":") ts) is_end false

-- `NAME:`
unfoldable pub label_in : List Token → Option (List ℕ)
label_in ts = name_at ts >>= (λ n. guard (is_colon n.1) n.0)

unfoldable pub line_in : List Token → List ℕ → Option Line
line_in ts comment = instr_in ts >>= (λ i. Some (record { instr = i; owner = owner_in comment }))

-- a line that is not blank, by its tokens and its comment
unfoldable pub full_item : List Token → List ℕ → Option Item
full_item ts comment =
    if is_syntax_line ts then Some syntax_line
    else (if is_text_line ts then Some text_line
    else pick (global_in ts) (λ name. Some (global name))
    (pick (label_in ts) (λ name. Some (label name)) (line_in ts comment >>= (λ line. Some (code line)))))

unfoldable pub item_in : List ℕ → Option Item
item_in line = if is_end (tokens (code_part line)) then Some blank else
    full_item (tokens (code_part line)) (comment_part line)
