-- The lines of a text that is written are its items.
use Rattle.std.proofs.Common.{◌≡◌, ℕ, ◌<◌, ◌^◌, Bool, true, false, cond, List, [], ◌∷◌, ◌++◌, Option, Some, None, codes}
use Rattle.std.proofs.Common.{decimal, refl, sym, ◌∙◌, ap, subst, arith, append_assoc, inr}
use Rattle.std.specs.List.{list_all}
use Rattle.std.proofs.lemmas.Bool.{lt-ltb}
use Rattle.std.proofs.lemmas.List.{append-nil}
use Rattle.base.specs.Identifiers.{is_identifier}
use Rattle.x86_instr.specs.declared.operand.Rm.TheVariants as rms
use Rattle.x86_instr.specs.declared.instr.Instr.{Instr}
use Rattle.x86_instr.specs.declared.instr.Instr.TheVariants as instrs
use Rattle.x86_instr.specs.declared.line.Line.{Line}
use Rattle.x86_instr.specs.Mnemonics.{mnemonic_of}
use Rattle.base.specs.Options.{◌>>=◌, guard}
use Rattle.asm_tokens.specs.Tokens.{Token, token, tokens}
use Rattle.asm_tokens.specs.Comments.{comment_number}
use Rattle.asm_tokens.proofs.Decimals.{written}
use Rattle.asm_tokens.proofs.Spell.{spell, Fine, is_plain, is_inline, tokens_spell, plain_spell, plain_inline, all_join}
use Rattle.asm_tokens.proofs.LineText.{code_alone, comment_none, code_before, comment_behind}
use Rattle.asm_text.specs.Assembly.{instr_text, owner_text}
use Rattle.x86_instr.specs.Fits.{FitsInstr, FitsOwner}
use Rattle.asm_text.specs.Items.{code, owner_in, name_at, syntax_rest, is_syntax_line, is_text_line, global_in}
use Rattle.asm_text.specs.Items.{is_colon, label_in, line_in, full_item, item_in}
use Rattle.asm_text.proofs.NamesBack.{begins_dot, no_dot, mnemonic_no_dot}
use Rattle.asm_text.proofs.InstrBack.{instr_back}
use Rattle.asm_text.proofs.SpellText.{spell_instr}
use Rattle.asm_text.proofs.FineText.{fine_instr}
use Rattle.asm_text.proofs.Spelled.{operand_tokens, instr_tokens}

-- what begins with no dot is none of the first three header lines
pub no_syntax : (b : Bool) (text : List ℕ) (ts : List Token) → begins_dot text ≡ false
    → is_syntax_line (token b text ∷ ts) ≡ false
unfolding is_syntax_line syntax_rest
no_syntax b text ts h = rw (no_dot text (codes "intel_syntax") h) refl

pub no_text : (b : Bool) (text : List ℕ) (ts : List Token) → begins_dot text ≡ false
    → is_text_line (token b text ∷ ts) ≡ false
unfolding is_text_line
no_text b text ts h = rw (no_dot text (codes "text") h) refl

pub no_global : (b : Bool) (text : List ℕ) (ts : List Token) → begins_dot text ≡ false
    → global_in (token b text ∷ ts) ≡ None
unfolding global_in
no_global b text ts h = rw (no_dot text (codes "globl") h) refl

-- the operands of an instruction are no colon
no_colon : (i : Instr) → is_colon (operand_tokens i) ≡ false
unfolding is_colon
no_colon (instrs.Mov dst src) = refl
no_colon (instrs.MovImm dst imm) = refl
no_colon (instrs.Store mem src) = refl
no_colon (instrs.Lea dst mem) = refl
no_colon (instrs.Bin op dst src) = refl
no_colon (instrs.Test a b) = refl
no_colon (instrs.Un op dst) = refl
no_colon (instrs.Adcx dst src) = refl
no_colon (instrs.Adox dst src) = refl
no_colon (instrs.Mulx hi lo src) = refl
no_colon (instrs.Mul (rms.Reg r)) = refl
no_colon (instrs.Mul (rms.Mem mem)) = refl
no_colon (instrs.Imul dst src) = refl
no_colon (instrs.Shl dst by) = refl
no_colon (instrs.Shr dst by) = refl
no_colon (instrs.Shrd dst src by) = refl
no_colon (instrs.Shlx dst src count) = refl
no_colon (instrs.Shrx dst src count) = refl
no_colon (instrs.Set cond dst) = refl
no_colon (instrs.Movzx dst src) = refl
no_colon (instrs.Cmov cond dst src) = refl
no_colon instrs.Clc = refl
no_colon instrs.Ret = refl

neither : (b : Bool) (text : List ℕ) → (guard b text >>= (λ n. guard {A = List ℕ} false n)) ≡ None
neither true text = refl
neither false text = refl

no_label : (i : Instr) → label_in (instr_tokens i) ≡ None
unfolding label_in name_at
no_label i = by_name (is_identifier _) _ (operand_tokens i) (no_colon i)
  where
    by_name : (b : Bool) (text : List ℕ) (ts : List Token) → is_colon ts ≡ false
        → ◌>>=◌ {A = List ℕ × List Token} {B = List ℕ} (guard b (text, ts)) (λ n. guard (is_colon n.1) n.0) ≡ None
    by_name true text ts h = rw h refl
    by_name false text ts h = refl

instr_item : (line : Line) (comment : List ℕ) → FitsInstr line.instr → owner_in comment ≡ line.owner
    → full_item (instr_tokens line.instr) comment ≡ Some (code line)
unfolding full_item line_in
instr_item line comment fits owner =
    let dot = mnemonic_no_dot (mnemonic_of line.instr) in
    rw (
      no_syntax true _ (operand_tokens line.instr) dot,
      no_text true _ (operand_tokens line.instr) dot,
      no_global true _ (operand_tokens line.instr) dot,
      no_label line.instr,
      instr_back line.instr fits,
      owner,
    ) refl

pub tokens_none : tokens [] ≡ []
unfolding tokens
tokens_none = refl

-- an owner that is written is read back
owner_back : (op : ℕ) → op < 2048 → owner_in (32 ∷ decimal op) ≡ Some op
unfolding owner_in comment_number
owner_back op small =
    let w = written op (omega arith) in
    let fine : Fine (token true (decimal op) ∷ []) = (inr (w.word, refl), tt) in
    let read : tokens (32 ∷ decimal op) ≡ token true (decimal op) ∷ [] = (
    let P : List ℕ → Type 0 = λ x. tokens (32 ∷ x) ≡ token true (decimal op) ∷ [] in
    subst P (append-nil (decimal op)) (tokens_spell (token true (decimal op) ∷ []) [] fine tokens_none)) in
    rw (read, w.ten, lt-ltb op 2048 small) refl

-- the bytes of an instruction's line
abbrev pub bare : Line → List ℕ
bare line = codes "    " ++ (instr_text line.instr ++ owner_text line.owner)

spaces : (x : List ℕ) (text : List ℕ) (ts : List Token) → tokens x ≡ token true text ∷ ts
    → tokens (32 ∷ 32 ∷ 32 ∷ x) ≡ token true text ∷ ts
unfolding tokens
spaces x text ts e = rw e refl

tokens_space : tokens (32 ∷ []) ≡ []
unfolding tokens
tokens_space = refl

no_owner : owner_in [] ≡ None
unfolding owner_in comment_number tokens
no_owner = refl

-- a line without an owner
lone_line : (i : Instr) → FitsInstr i → item_in (32 ∷ 32 ∷ 32 ∷ spell (instr_tokens i) []) ≡ Some
    (code (record { instr = i; owner = None }))
unfolding item_in
lone_line i fits =
    let fine = fine_instr i fits in
    let plain : list_all is_plain (32 ∷ 32 ∷ 32 ∷ spell (instr_tokens i) []) ≡ true =
    plain_spell (instr_tokens i) [] fine refl in
    let read = spaces (spell (instr_tokens i) []) _ (operand_tokens i)
    (tokens_spell (instr_tokens i) [] fine tokens_none) in
    rw (
      code_alone (32 ∷ 32 ∷ 32 ∷ spell (instr_tokens i) []) plain,
      comment_none (32 ∷ 32 ∷ 32 ∷ spell (instr_tokens i) []) plain,
      read,
    )
    (instr_item (record { instr = i; owner = None }) [] fits no_owner)

-- a line with one
owned_line : (i : Instr) (op : ℕ) → FitsInstr i → op < 2048
    → item_in ((32 ∷ 32 ∷ 32 ∷ spell (instr_tokens i) (32 ∷ [])) ++ 35 ∷ (32 ∷ decimal op)) ≡ Some
    (code (record { instr = i; owner = Some op }))
unfolding item_in
owned_line i op fits small =
    let fine = fine_instr i fits in
    let plain : list_all is_plain (32 ∷ 32 ∷ 32 ∷ spell (instr_tokens i) (32 ∷ [])) ≡ true =
    plain_spell (instr_tokens i) (32 ∷ []) fine refl in
    let read = spaces (spell (instr_tokens i) (32 ∷ [])) _ (operand_tokens i)
    (tokens_spell (instr_tokens i) (32 ∷ []) fine tokens_space) in
    rw (
      code_before (32 ∷ 32 ∷ 32 ∷ spell (instr_tokens i) (32 ∷ [])) (32 ∷ decimal op) plain,
      comment_behind (32 ∷ 32 ∷ 32 ∷ spell (instr_tokens i) (32 ∷ [])) (32 ∷ decimal op) plain,
      read,
    )
    (instr_item (record { instr = i; owner = Some op }) (32 ∷ decimal op) fits (owner_back op small))

lone_same : (i : Instr) → codes "    " ++ (instr_text i ++ []) ≡ 32 ∷ 32 ∷ 32 ∷ spell (instr_tokens i) []
lone_same i = ap (λ x. 32 ∷ 32 ∷ 32 ∷ x) (sym (spell_instr i []))

owned_same : (i : Instr) (op : ℕ) → codes "    "
    ++ (instr_text i ++ (codes " # " ++ decimal op)) ≡ (32 ∷ 32 ∷ 32 ∷ spell (instr_tokens i) (32 ∷ [])) ++ 35
    ∷ (32 ∷ decimal op)
owned_same i op =
    ap (λ x. 32 ∷ 32 ∷ 32 ∷ 32 ∷ x) (sym (append_assoc (instr_text i) (32 ∷ []) (35 ∷ (32 ∷ decimal op))))
    ∙ ap (λ x. (32 ∷ 32 ∷ 32 ∷ x) ++ 35 ∷ (32 ∷ decimal op)) (sym (spell_instr i (32 ∷ [])))

pub line_back : (i : Instr) (o : Option ℕ) → FitsInstr i → FitsOwner o
    → item_in (codes "    " ++ (instr_text i ++ owner_text o)) ≡ Some (code (record { instr = i; owner = o }))
unfolding owner_text
line_back i None fits small = ap item_in (lone_same i) ∙ lone_line i fits
line_back i (Some op) fits small = ap item_in (owned_same i op) ∙ owned_line i op fits small

-- the line holds no line end
lone_inline : (i : Instr) → FitsInstr i → list_all is_inline (32 ∷ 32 ∷ 32 ∷ spell (instr_tokens i) []) ≡ true
lone_inline i fits = plain_inline (32 ∷ 32 ∷ 32 ∷ spell (instr_tokens i) [])
    (plain_spell (instr_tokens i) [] (fine_instr i fits) refl)

number_inline : (n : ℕ) → n < 2 ^ 64 → list_all is_inline (decimal n) ≡ true
number_inline n fits =
    let w = written n fits in
    let fine : Fine (token false (decimal n) ∷ []) = (inr (w.word, refl), tt) in
    let P : List ℕ → Type 0 = λ x. list_all is_plain x ≡ true in
    plain_inline (decimal n) (subst P (append-nil (decimal n))
    (plain_spell (token false (decimal n) ∷ []) [] fine refl))

owned_inline : (i : Instr) (op : ℕ) → FitsInstr i → op < 2048
    → list_all is_inline ((32 ∷ 32 ∷ 32 ∷ spell (instr_tokens i) (32 ∷ [])) ++ 35 ∷ (32 ∷ decimal op)) ≡ true
owned_inline i op fits small =
    all_join is_inline (32 ∷ 32 ∷ 32 ∷ spell (instr_tokens i) (32 ∷ [])) (35 ∷ (32 ∷ decimal op))
    (plain_inline (32 ∷ 32 ∷ 32 ∷ spell (instr_tokens i) (32 ∷ []))
    (plain_spell (instr_tokens i) (32 ∷ []) (fine_instr i fits) refl))
    (number_inline op (omega arith))

pub line_inline : (i : Instr) (o : Option ℕ) → FitsInstr i → FitsOwner o
    → list_all is_inline (codes "    " ++ (instr_text i ++ owner_text o)) ≡ true
unfolding owner_text
line_inline i None fits small = ap (list_all is_inline) (lone_same i) ∙ lone_inline i fits
line_inline i (Some op) fits small = ap (list_all is_inline) (owned_same i op) ∙ owned_inline i op fits small
