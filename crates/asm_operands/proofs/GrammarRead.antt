-- What is written by the grammar is read.
use Rattle.std.proofs.Common.{◌≡◌, ℕ, Bool, true, false, List, Option, Some, None, cond, ℤ, codes, refl, sym, ap, ◌∙◌}
use Rattle.std.specs.Prelude.{option_map}
use Rattle.std.specs.Str.{bytes_eq}
use Rattle.std.proofs.lemmas.Slice.Eq.{bytes_eq-Decides}
use Rattle.x86_instr.specs.declared.operand.Reg.{Reg}
use Rattle.x86_instr.specs.declared.operand.Reg.TheVariants.{Rax, Rcx, Rdx, Rbx, Rsp, Rbp, Rsi, Rdi, R8, R9, R10, R11}
use Rattle.x86_instr.specs.declared.operand.Reg.TheVariants.{R12, R13, R14, R15}
use Rattle.x86_instr.specs.declared.operand.Index.{Index}
use Rattle.x86_instr.specs.declared.operand.Mem.{Mem}
use Rattle.x86_instr.specs.declared.operand.Rm.{Rm}
use Rattle.x86_instr.specs.declared.operand.Rm.TheVariants as rms
use Rattle.x86_instr.specs.declared.operand.Src.{Src}
use Rattle.x86_instr.specs.declared.operand.Src.TheVariants as srcs
use Rattle.asm_tokens.specs.Tokens.{Token, after}
use Rattle.base.specs.Numbers.{word}
use Rattle.asm_operands.specs.Names.{reg_text, register_named}
use Rattle.asm_operands.specs.Operands.{register_at, byte_register_at, number_at, scale_at, plus_register, scaled}
use Rattle.asm_operands.specs.Operands.{index_at, offset_at, displacement_at, opened, memory_at, rm_at, immediate_at}
use Rattle.asm_operands.specs.Operands.{small_at, wide_at, src_at, count_at}
use Rattle.asm_operands.specs.Grammar.{IsToken, IsRegister, IsByteRegister, IsNumber, IsOpened, bare, named, IsScale}
use Rattle.asm_operands.specs.Grammar.{absent, given, IsIndex, IsOffset, IsDisplacement, plus, minus, IsMemory}
use Rattle.asm_operands.specs.Grammar.{IsImmediate, IsSmall, IsWide, IsCount, IsRm, IsSrc}
use Rattle.asm_operands.specs.Grammar.IsDisplacement.{absent as none}
use Rattle.asm_operands.proofs.NamesBack.{register_back, byte_register_back, register_text}

-- ---- tokens

pub token_read : (text : List ℕ) (ts rest : List Token) → IsToken text ts rest → after text ts ≡ Some rest
token_read text ts rest k = ap (after text) k.is ∙ rw ((bytes_eq-Decides k.first.text text).1 (sym k.spelled)) refl

-- a token is no other one
pub token_other : (text other : List ℕ) (ts rest : List Token) → bytes_eq text other ≡ false → IsToken text ts rest
    → after other ts ≡ None
token_other text other ts rest differ k = ap (after other) k.is ∙ rw (sym k.spelled, differ) refl

pub register_read : (ts : List Token) (r : Reg) (rest : List Token) → IsRegister ts r rest
    → register_at ts ≡ Some (r, rest)
unfolding register_at
register_read ts r rest k = ap register_at k.is ∙ rw (sym k.spelled, register_back r) refl

pub byte_register_read : (ts : List Token) (r : Reg) (rest : List Token) → IsByteRegister ts r rest
    → byte_register_at ts ≡ Some (r, rest)
unfolding byte_register_at
byte_register_read ts r rest k = ap byte_register_at k.is ∙ rw (sym k.spelled, byte_register_back r) refl

-- a token that is no register's name
pub token_no_register : (text : List ℕ) (ts rest : List Token) → register_named text ≡ None → IsToken text ts rest
    → register_at ts ≡ None
unfolding register_at
token_no_register text ts rest out k = ap register_at k.is ∙ rw (sym k.spelled, out) refl

number_read : (ts : List Token) (n : ℕ) (rest : List Token) → IsNumber ts n rest → number_at ts ≡ Some (n, rest)
unfolding number_at
number_read ts n rest k = ap number_at k.is ∙ rw k.spelled refl

-- a number is no other token
number_other : (text : List ℕ) (ts : List Token) (n : ℕ) (rest : List Token) → word text ≡ None → IsNumber ts n rest
    → after text ts ≡ None
number_other text ts n rest out k = ap (after text) k.is
    ∙ by_text (bytes_eq k.first.text text) (λ h. (bytes_eq-Decides k.first.text text).0 h)
  where
    by_text : (b : Bool) → (b ≡ true → k.first.text ≡ text) → cond b (Some rest) None ≡ None
    by_text true same = let none : word k.first.text ≡ None = ap word (same refl) ∙ out in
        let some : word k.first.text ≡ Some n = k.spelled in cc
    by_text false same = refl

name_no_number : (r : Reg) → word (reg_text r) ≡ None
unfolding word
name_no_number Rax = refl
name_no_number Rcx = refl
name_no_number Rdx = refl
name_no_number Rbx = refl
name_no_number Rsp = refl
name_no_number Rbp = refl
name_no_number Rsi = refl
name_no_number Rdi = refl
name_no_number R8 = refl
name_no_number R9 = refl
name_no_number R10 = refl
name_no_number R11 = refl
name_no_number R12 = refl
name_no_number R13 = refl
name_no_number R14 = refl
name_no_number R15 = refl

-- and no register
number_no_register : (ts : List Token) (n : ℕ) (rest : List Token) → IsNumber ts n rest → register_at ts ≡ None
unfolding register_at
number_no_register ts n rest k = ap register_at k.is
    ∙ by_name (register_named k.first.text) (λ r e. register_text k.first.text r e)
  where
    by_name : (o : Option Reg) → ((r : Reg) → o ≡ Some r → reg_text r ≡ k.first.text)
        → option_map {U = Reg × List Token} (λ r. (r, rest)) o ≡ None
    by_name None same = refl
    by_name (Some r) same = let none : word k.first.text ≡ None = ap word (sym (same r refl)) ∙ name_no_number r in
        let some : word k.first.text ≡ Some n = k.spelled in cc

minus_no_number : word (codes "-") ≡ None
unfolding word
minus_no_number = refl

bracket_no_number : word (codes "[") ≡ None
unfolding word
bracket_no_number = refl

qword_no_number : word (codes "qword") ≡ None
unfolding word
qword_no_number = refl

bracket_no_register : register_named (codes "[") ≡ None
unfolding register_named
bracket_no_register = refl

qword_no_register : register_named (codes "qword") ≡ None
unfolding register_named
qword_no_register = refl

minus_no_register : register_named (codes "-") ≡ None
unfolding register_named
minus_no_register = refl

-- ---- memory

opened_read : (ts rest : List Token) → IsOpened ts rest → opened ts ≡ Some rest
unfolding opened
opened_read ts rest (bare k) = rw (
  token_other (codes "[") (codes "qword") ts rest refl k,
  token_read (codes "[") ts rest k,
) refl
opened_read ts rest (named a b k l m) = rw
    (token_read (codes "qword") ts a k, token_read (codes "ptr") a b l, token_read (codes "[") b rest m) refl

scale_read : (ts : List Token) (s : ℕ) (rest : List Token) → IsScale ts s rest → after (codes "*") rest ≡ None
    → scale_at ts ≡ Some (s, rest)
unfolding scale_at
scale_read ts s rest (absent one same) out = rw (same, out, one) refl
scale_read ts s rest (given a star n fits) out =
    rw (token_read (codes "*") ts a star, number_read a s rest n, fits) refl

plus_register_read : (ts a : List Token) (r : Reg) (rest : List Token) → IsToken (codes "+") ts a → IsRegister a r rest
    → plus_register ts ≡ Some (r, rest)
unfolding plus_register
plus_register_read ts a r rest sign reg = rw (token_read (codes "+") ts a sign) (register_read a r rest reg)

scaled_read : (r : Reg) (ts : List Token) (s : ℕ) (rest : List Token) → scale_at ts ≡ Some (s, rest)
    → scaled r ts ≡ Some (Some (record { reg = r; scale = s }), rest)
unfolding scaled
scaled_read r ts s rest e = rw e refl

index_read : (ts : List Token) (i : Option Index) (rest : List Token) → IsIndex ts i rest → plus_register rest ≡ None
    → after (codes "*") rest ≡ None → index_at ts ≡ Some (i, rest)
unfolding index_at
index_read ts None rest same no_register no_scale = rw (same, no_register) refl
index_read ts (Some i) rest (a, b, sign, reg, fits, scale) no_register no_scale =
    rw (plus_register_read ts a i.reg b sign reg, fits)
    (scaled_read i.reg b i.scale rest (scale_read b i.scale rest scale no_scale))

offset_read : (b : Bool) (ts : List Token) (d : ℤ) (rest : List Token) → IsOffset b ts d rest
    → offset_at b ts ≡ Some (d, rest)
unfolding offset_at
offset_read b ts d rest k = rw (number_read ts k.size rest k.spelled, k.value) refl

displacement_read : (ts : List Token) (d : ℤ) (rest behind : List Token) → IsDisplacement ts d rest
    → IsToken (codes "]") rest behind → displacement_at ts ≡ Some (d, rest)
unfolding displacement_at
displacement_read ts d rest behind (none zero same) close =
    rw (
      same,
      token_other (codes "]") (codes "+") rest behind refl close,
      token_other (codes "]") (codes "-") rest behind refl close,
      zero,
    ) refl
displacement_read ts d rest behind (plus a sign off) close =
    rw (token_read (codes "+") ts a sign) (offset_read false a d rest off)
displacement_read ts d rest behind (minus a sign off) close =
    rw (token_other (codes "-") (codes "+") ts a refl sign, token_read (codes "-") ts a sign)
    (offset_read true a d rest off)

-- a displacement is no index
no_index : (ts : List Token) (d : ℤ) (rest behind : List Token) → IsDisplacement ts d rest
    → IsToken (codes "]") rest behind → plus_register ts ≡ None
unfolding plus_register
no_index ts d rest behind (none zero same) close =
    rw (same, token_other (codes "]") (codes "+") rest behind refl close) refl
no_index ts d rest behind (plus a sign off) close =
    rw (token_read (codes "+") ts a sign) (number_no_register a off.size rest off.spelled)
no_index ts d rest behind (minus a sign off) close = rw (token_other (codes "-") (codes "+") ts a refl sign) refl

-- and no scale
no_scale : (ts : List Token) (d : ℤ) (rest behind : List Token) → IsDisplacement ts d rest
    → IsToken (codes "]") rest behind → after (codes "*") ts ≡ None
no_scale ts d rest behind (none zero same) close = rw same (token_other (codes "]") (codes "*") rest behind refl close)
no_scale ts d rest behind (plus a sign off) close = token_other (codes "+") (codes "*") ts a refl sign
no_scale ts d rest behind (minus a sign off) close = token_other (codes "-") (codes "*") ts a refl sign

pub memory_read : (ts : List Token) (mem : Mem) (rest : List Token) → IsMemory ts mem rest
    → memory_at ts ≡ Some (mem, rest)
unfolding memory_at
memory_read ts mem rest k =
    rw (
      opened_read ts k.inner k.opened,
      register_read k.inner mem.base k.based k.base,
      index_read k.based mem.index k.indexed k.index
          (no_index k.indexed mem.disp k.displaced rest k.displacement k.closed)
          (no_scale k.indexed mem.disp k.displaced rest k.displacement k.closed),
      displacement_read k.indexed mem.disp k.displaced rest k.displacement k.closed,
      token_read (codes "]") k.displaced rest k.closed,
    ) refl

-- memory begins with no register
opened_no_register : (ts rest : List Token) → IsOpened ts rest → register_at ts ≡ None
opened_no_register ts rest (bare k) = token_no_register (codes "[") ts rest bracket_no_register k
opened_no_register ts rest (named a b k l m) = token_no_register (codes "qword") ts a qword_no_register k

pub memory_no_register : (ts : List Token) (mem : Mem) (rest : List Token) → IsMemory ts mem rest
    → register_at ts ≡ None
memory_no_register ts mem rest k = opened_no_register ts k.inner k.opened

-- ---- immediates

immediate_read : (ts : List Token) (b : Bool) (n : ℕ) (rest : List Token) → IsImmediate ts b n rest
    → immediate_at ts ≡ Some (b, n, rest)
unfolding immediate_at
immediate_read ts false n rest k = rw (number_other (codes "-") ts n rest minus_no_number k, number_read ts n rest k)
    refl
immediate_read ts true n rest (a, sign, together, k) =
    rw (token_read (codes "-") ts a sign, together, number_read a n rest k) refl

pub small_read : (ts : List Token) (n : ℤ) (rest : List Token) → IsSmall ts n rest → small_at ts ≡ Some (n, rest)
unfolding small_at
small_read ts n rest k = rw (immediate_read ts k.minus k.size rest k.spelled, k.value) refl

pub wide_read : (ts : List Token) (n : ℕ) (rest : List Token) → IsWide ts n rest → wide_at ts ≡ Some (n, rest)
unfolding wide_at
wide_read ts n rest k = rw (immediate_read ts k.minus k.size rest k.spelled, k.value) refl

pub count_read : (ts : List Token) (n : ℕ) (rest : List Token) → IsCount ts n rest → count_at ts ≡ Some (n, rest)
unfolding count_at
count_read ts n rest k = rw (number_read ts n rest k.0, k.1) refl

-- an immediate is no register and no memory
immediate_no_register : (ts : List Token) (b : Bool) (n : ℕ) (rest : List Token) → IsImmediate ts b n rest
    → register_at ts ≡ None
immediate_no_register ts false n rest k = number_no_register ts n rest k
immediate_no_register ts true n rest (a, sign, together, k) = token_no_register (codes "-") ts a minus_no_register sign

immediate_no_memory : (ts : List Token) (b : Bool) (n : ℕ) (rest : List Token) → IsImmediate ts b n rest
    → memory_at ts ≡ None
unfolding memory_at opened
immediate_no_memory ts false n rest k = rw
    (number_other (codes "qword") ts n rest qword_no_number k, number_other (codes "[") ts n rest bracket_no_number k)
    refl
immediate_no_memory ts true n rest (a, sign, together, k) =
    rw (token_other (codes "-") (codes "qword") ts a refl sign, token_other (codes "-") (codes "[") ts a refl sign) refl

-- ---- sources

pub rm_read : (ts : List Token) (s : Rm) (rest : List Token) → IsRm ts s rest → rm_at ts ≡ Some (s, rest)
unfolding rm_at
rm_read ts (rms.Reg r) rest k = rw (register_read ts r rest k) refl
rm_read ts (rms.Mem mem) rest k = rw (memory_no_register ts mem rest k, memory_read ts mem rest k) refl

-- an immediate is no register or memory source
pub wide_no_rm : (ts : List Token) (n : ℕ) (rest : List Token) → IsWide ts n rest → rm_at ts ≡ None
unfolding rm_at
wide_no_rm ts n rest k = rw (
  immediate_no_register ts k.minus k.size rest k.spelled,
  immediate_no_memory ts k.minus k.size rest k.spelled,
) refl

pub src_read : (ts : List Token) (s : Src) (rest : List Token) → IsSrc ts s rest → src_at ts ≡ Some (s, rest)
unfolding src_at
src_read ts (srcs.Reg r) rest k = rw (register_read ts r rest k) refl
src_read ts (srcs.Mem mem) rest k = rw (memory_no_register ts mem rest k, memory_read ts mem rest k) refl
src_read ts (srcs.Imm n) rest k =
    rw (
      immediate_no_register ts k.minus k.size rest k.spelled,
      immediate_no_memory ts k.minus k.size rest k.spelled,
      small_read ts n rest k,
    ) refl
