-- What the reading of operands finds is written there by the grammar.
use Rattle.std.proofs.Common.{◌≡◌, ℕ, Bool, true, false, List, [], ◌∷◌, Option, Some, None, cond, ℤ, pos, codes, refl}
use Rattle.std.proofs.Common.{sym, ap, subst, ◌∙◌}
use Rattle.std.specs.Str.{bytes_eq}
use Rattle.std.proofs.lemmas.Slice.Eq.{bytes_eq-Decides}
use Rattle.x86_instr.specs.declared.operand.Reg.{Reg}
use Rattle.x86_instr.specs.declared.operand.Index.{Index}
use Rattle.x86_instr.specs.declared.operand.Mem.{Mem}
use Rattle.x86_instr.specs.declared.operand.Rm.{Rm}
use Rattle.x86_instr.specs.declared.operand.Rm.TheVariants as rms
use Rattle.x86_instr.specs.declared.operand.Src.{Src}
use Rattle.x86_instr.specs.declared.operand.Src.TheVariants as srcs
use Rattle.x86_instr.specs.Ranges.{is_shift_count, is_scale, is_index_reg}
use Rattle.base.specs.Options.{◌>>=◌, guard}
use Rattle.asm_tokens.specs.Tokens.{Token, after, is_spaced}
use Rattle.base.specs.Numbers.{word}
use Rattle.asm_operands.specs.Names.{reg_text, byte_reg_text, register_named, byte_register_named}
use Rattle.asm_operands.specs.Operands.{register_at, byte_register_at, number_at, scale_at, plus_register, scaled}
use Rattle.asm_operands.specs.Operands.{index_at, signed_of, word_of, offset_at, displacement_at, opened, memory_at}
use Rattle.asm_operands.specs.Operands.{rm_at, immediate_at, small_at, wide_at, src_at, count_at}
use Rattle.asm_operands.specs.Grammar.{IsToken, IsRegister, IsByteRegister, IsNumber, IsOpened, bare, named, IsScale}
use Rattle.asm_operands.specs.Grammar.{absent, given, IsIndex, IsOffset, IsDisplacement, plus, minus, IsMemory}
use Rattle.asm_operands.specs.Grammar.{IsImmediate, IsSmall, IsWide, IsCount, IsRm, IsSrc}
use Rattle.asm_operands.specs.Grammar.IsDisplacement.{absent as none}
use Rattle.base.proofs.Options.{bind_then, map_then, pick_then, guard_some}
use Rattle.asm_operands.proofs.NamesBack.{register_text, byte_register_text}

-- ---- tokens

pub token_found : (text : List ℕ) (ts rest : List Token) → after text ts ≡ Some rest → IsToken text ts rest
token_found text [] rest e = cc
token_found text (t ∷ ts) rest e = by_text (bytes_eq t.text text) (λ h. (bytes_eq-Decides t.text text).0 h) e
  where
    by_text : (b : Bool) → (b ≡ true → t.text ≡ text) → cond b (Some ts) None ≡ Some rest → IsToken text (t ∷ ts) rest
    by_text true same e = let behind : ts ≡ rest = cc in
        record { first = t; is = ap (λ q. t ∷ q) behind; spelled = sym (same refl) }
    by_text false same e = cc

pub register_found : (ts : List Token) (p : Reg × List Token) → register_at ts ≡ Some p → IsRegister ts p.0 p.1
unfolding register_at
register_found [] p e = cc
register_found (t ∷ ts) p e =
    map_then (register_named t.text) _ p (IsRegister (t ∷ ts) p.0 p.1) (λ r is same.
    record {
      first = t;
      is = ap (λ q. t ∷ q) (ap (λ q. q.1) same);
      spelled = ap (λ q. reg_text q.0) (sym same) ∙ register_text t.text r is;
    }) e

pub byte_register_found : (ts : List Token) (p : Reg × List Token) → byte_register_at ts ≡ Some p
    → IsByteRegister ts p.0 p.1
unfolding byte_register_at
byte_register_found [] p e = cc
byte_register_found (t ∷ ts) p e =
    map_then (byte_register_named t.text) _ p (IsByteRegister (t ∷ ts) p.0 p.1) (λ r is same.
    record {
      first = t;
      is = ap (λ q. t ∷ q) (ap (λ q. q.1) same);
      spelled = ap (λ q. byte_reg_text q.0) (sym same) ∙ byte_register_text t.text r is;
    }) e

number_found : (ts : List Token) (p : ℕ × List Token) → number_at ts ≡ Some p → IsNumber ts p.0 p.1
unfolding number_at
number_found [] p e = cc
number_found (t ∷ ts) p e =
    map_then (word t.text) _ p (IsNumber (t ∷ ts) p.0 p.1) (λ n is same.
    record { first = t; is = ap (λ q. t ∷ q) (ap (λ q. q.1) same); spelled = is ∙ ap (λ q. Some q.0) same }) e

-- ---- memory

opened_found : (ts rest : List Token) → opened ts ≡ Some rest → IsOpened ts rest
unfolding opened
opened_found ts rest e =
    pick_then (after (codes "qword") ts) _ _ rest (IsOpened ts rest) (λ a is e.
    bind_then (after (codes "ptr") a) _ rest (IsOpened ts rest)
    (λ b at e. named a b (token_found (codes "qword") ts a is) (token_found (codes "ptr") a b at)
    (token_found (codes "[") b rest e)) e)
    (λ gone e. bare (token_found (codes "[") ts rest e)) e

scale_found : (ts : List Token) (p : ℕ × List Token) → scale_at ts ≡ Some p → IsScale ts p.0 p.1
unfolding scale_at
scale_found ts p e =
    pick_then (after (codes "*") ts) _ _ p (IsScale ts p.0 p.1) (λ a is e.
    bind_then (number_at a) _ p (IsScale ts p.0 p.1) (λ n at e.
    let h = guard_some (is_scale n.0) n p e in
    subst (λ q. IsScale ts q.0 q.1) h.1 (given a (token_found (codes "*") ts a is) (number_found a n at) h.0)) e)
    (λ gone e. let same : (1, ts) ≡ p = cc in absent (ap (λ q. q.0) (sym same)) (ap (λ q. q.1) same)) e

plus_register_found : (ts : List Token) (p : Reg × List Token) → plus_register ts ≡ Some p
    → (a : List Token) × IsToken (codes "+") ts a × IsRegister a p.0 p.1
unfolding plus_register
plus_register_found ts p e =
    bind_then (after (codes "+") ts) _ p ((a : List Token) × IsToken (codes "+") ts a × IsRegister a p.0 p.1)
    (λ a is at. (a, token_found (codes "+") ts a is, register_found a p at)) e

-- an index, where one is written
IndexFrom : List Token → Option Index × List Token → Type 0
IndexFrom ts q = IsIndex ts q.0 q.1

index_found : (ts : List Token) (p : Option Index × List Token) → index_at ts ≡ Some p → IsIndex ts p.0 p.1
unfolding index_at scaled IndexFrom
index_found ts p e =
    pick_then (plus_register ts) _ _ p (IsIndex ts p.0 p.1) (λ r is e.
    bind_then (guard (is_index_reg r.0) r) _ p (IsIndex ts p.0 p.1) (λ r' held e.
    let h = guard_some (is_index_reg r.0) r r' held in
    bind_then (scale_at r'.1) _ p (IsIndex ts p.0 p.1) (λ s at e.
    let same : (Some (record { reg = r'.0; scale = s.0 }), s.1) ≡ p = cc in
    let g = plus_register_found ts r is in
    let reg : IsRegister g.0 r'.0 r'.1 = subst (λ q. IsRegister g.0 q.0 q.1) h.1 g.2 in
    let fits : is_index_reg r'.0 ≡ true = ap (λ q. is_index_reg q.0) (sym h.1) ∙ h.0 in
    subst (IndexFrom ts) same (g.0, r'.1, g.1, reg, fits, scale_found r'.1 s at)) e) e)
    (λ gone e. let same : (None, ts) ≡ p = cc in subst (IndexFrom ts) same refl) e

offset_found : (b : Bool) (ts : List Token) (p : ℤ × List Token) → offset_at b ts ≡ Some p → IsOffset b ts p.0 p.1
unfolding offset_at
offset_found b ts p e =
    bind_then (number_at ts) _ p (IsOffset b ts p.0 p.1) (λ n at e.
    bind_then (signed_of b n.0) _ p (IsOffset b ts p.0 p.1) (λ d is e.
    let same : (d, n.1) ≡ p = cc in
    subst (λ q. IsOffset b ts q.0 q.1) same (record { size = n.0; spelled = number_found ts n at; value = is })) e) e

displacement_found : (ts : List Token) (p : ℤ × List Token) → displacement_at ts ≡ Some p → IsDisplacement ts p.0 p.1
unfolding displacement_at
displacement_found ts p e =
    pick_then (after (codes "+") ts) _ _ p (IsDisplacement ts p.0 p.1)
    (λ a is e. plus a (token_found (codes "+") ts a is) (offset_found false a p e))
    (λ gone e.
    pick_then (after (codes "-") ts) _ _ p (IsDisplacement ts p.0 p.1)
    (λ a is e. minus a (token_found (codes "-") ts a is) (offset_found true a p e))
    (λ gone e. let same : (pos 0, ts) ≡ p = cc in none (ap (λ q. q.0) (sym same)) (ap (λ q. q.1) same)) e) e

pub memory_found : (ts : List Token) (p : Mem × List Token) → memory_at ts ≡ Some p → IsMemory ts p.0 p.1
unfolding memory_at
memory_found ts p e =
    bind_then (opened ts) _ p (IsMemory ts p.0 p.1) (λ inner front e.
    bind_then (register_at inner) _ p (IsMemory ts p.0 p.1) (λ base at e.
    bind_then (index_at base.1) _ p (IsMemory ts p.0 p.1) (λ index by e.
    bind_then (displacement_at index.1) _ p (IsMemory ts p.0 p.1) (λ disp off e.
    bind_then (after (codes "]") disp.1) _ p (IsMemory ts p.0 p.1) (λ rest close e.
    let same : (record { base = base.0; index = index.0; disp = disp.0 }, rest) ≡ p = cc in
    subst (λ q. IsMemory ts q.0 q.1) same (record {
      inner = inner;
      based = base.1;
      indexed = index.1;
      displaced = disp.1;
      opened = opened_found ts inner front;
      base = register_found inner base at;
      index = index_found base.1 index by;
      displacement = displacement_found index.1 disp off;
      closed = token_found (codes "]") disp.1 rest close;
    })) e) e) e) e) e

-- ---- immediates

immediate_found : (ts : List Token) (p : Bool × ℕ × List Token) → immediate_at ts ≡ Some p → IsImmediate ts p.0 p.1 p.2
unfolding immediate_at
immediate_found ts p e =
    pick_then (after (codes "-") ts) _ _ p (IsImmediate ts p.0 p.1 p.2)
    (λ a is e. by_blank a (token_found (codes "-") ts a is) (is_spaced a) refl e)
    (λ gone e.
    bind_then (number_at ts) _ p (IsImmediate ts p.0 p.1 p.2) (λ n at e.
    let same : (false, n.0, n.1) ≡ p = cc in
    subst (λ q. IsImmediate ts q.0 q.1 q.2) same (number_found ts n at)) e) e
  where
    by_blank : (a : List Token) → IsToken (codes "-") ts a → (b : Bool) → is_spaced a ≡ b
        → cond b None (number_at a >>= (λ n. Some (true, n.0, n.1))) ≡ Some p → IsImmediate ts p.0 p.1 p.2
    by_blank a is true blank e = cc
    by_blank a is false blank e = bind_then (number_at a) _ p (IsImmediate ts p.0 p.1 p.2) (λ n at e.
        let same : (true, n.0, n.1) ≡ p = cc in
        subst (λ q. IsImmediate ts q.0 q.1 q.2) same (a, is, blank, number_found a n at)) e

pub small_found : (ts : List Token) (p : ℤ × List Token) → small_at ts ≡ Some p → IsSmall ts p.0 p.1
unfolding small_at
small_found ts p e =
    bind_then (immediate_at ts) _ p (IsSmall ts p.0 p.1) (λ i at e.
    bind_then (signed_of i.0 i.1) _ p (IsSmall ts p.0 p.1) (λ n is e.
    let same : (n, i.2) ≡ p = cc in
    subst (λ q. IsSmall ts q.0 q.1) same (record {
      minus = i.0;
      size = i.1;
      spelled = immediate_found ts i at;
      value = is;
    })) e) e

pub wide_found : (ts : List Token) (p : ℕ × List Token) → wide_at ts ≡ Some p → IsWide ts p.0 p.1
unfolding wide_at
wide_found ts p e =
    bind_then (immediate_at ts) _ p (IsWide ts p.0 p.1) (λ i at e.
    bind_then (word_of i.0 i.1) _ p (IsWide ts p.0 p.1) (λ n is e.
    let same : (n, i.2) ≡ p = cc in
    subst (λ q. IsWide ts q.0 q.1) same (record {
      minus = i.0;
      size = i.1;
      spelled = immediate_found ts i at;
      value = is;
    })) e) e

pub count_found : (ts : List Token) (p : ℕ × List Token) → count_at ts ≡ Some p → IsCount ts p.0 p.1
unfolding count_at
count_found ts p e =
    bind_then (number_at ts) _ p (IsCount ts p.0 p.1) (λ n at e.
    let h = guard_some (is_shift_count n.0) n p e in
    subst (λ q. IsCount ts q.0 q.1) h.1 (number_found ts n at, h.0)) e

-- ---- sources

pub rm_found : (ts : List Token) (p : Rm × List Token) → rm_at ts ≡ Some p → IsRm ts p.0 p.1
unfolding rm_at
rm_found ts p e =
    pick_then (register_at ts) _ _ p (IsRm ts p.0 p.1)
    (λ r at e. let same : (rms.Reg r.0, r.1) ≡ p = cc in subst (λ q. IsRm ts q.0 q.1) same (register_found ts r at))
    (λ gone e.
    bind_then (memory_at ts) _ p (IsRm ts p.0 p.1) (λ m at e.
    let same : (rms.Mem m.0, m.1) ≡ p = cc in subst (λ q. IsRm ts q.0 q.1) same (memory_found ts m at)) e) e

pub src_found : (ts : List Token) (p : Src × List Token) → src_at ts ≡ Some p → IsSrc ts p.0 p.1
unfolding src_at
src_found ts p e =
    pick_then (register_at ts) _ _ p (IsSrc ts p.0 p.1)
    (λ r at e. let same : (srcs.Reg r.0, r.1) ≡ p = cc in subst (λ q. IsSrc ts q.0 q.1) same (register_found ts r at))
    (λ gone e.
    pick_then (memory_at ts) _ _ p (IsSrc ts p.0 p.1)
    (λ m at e. let same : (srcs.Mem m.0, m.1) ≡ p = cc in subst (λ q. IsSrc ts q.0 q.1) same (memory_found ts m at))
    (λ gone e.
    bind_then (small_at ts) _ p (IsSrc ts p.0 p.1) (λ n at e.
    let same : (srcs.Imm n.0, n.1) ≡ p = cc in subst (λ q. IsSrc ts q.0 q.1) same (small_found ts n at)) e) e) e
