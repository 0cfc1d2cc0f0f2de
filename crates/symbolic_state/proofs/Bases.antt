-- The word of a node that is what a register held at the start, and a constant.
use Rattle.std.proofs.Common.{◌≡◌, ℕ, ◌+◌, ◌*◌, ◌%◌, ◌^◌, ◌<◌, ◌==◌, Bool, true, false, List, [], ◌∷◌, length}
use Rattle.std.proofs.Common.{Option, Some, None, option_map, if◌then◌else◌, refl, ap, ◌∙◌, subst, arith}
use Rattle.std.proofs.lemmas.Bool.Decides.{nat_tests}
use Rattle.std.proofs.lemmas.List.Elements.{All-head}
use Rattle.std.proofs.lemmas.Option.{same_Some}
use Rattle.terms.specs.declared.lists.Term.{Term}
use Rattle.terms.specs.declared.nodes.Node.{Node}
use Rattle.terms.specs.declared.nodes.NodeKind.{NodeKind}
use Rattle.terms.specs.declared.nodes.NodeKind.TheVariants as kinds
use Rattle.terms.specs.Tables.{node_at, AreTermsBelow, RefersBelow, IsTable}
use Rattle.terms.specs.Meaning.{Start, IsSound, IsValuation, kind_value, weighted}
use Rattle.symbolic_state.specs.Cells.{Base, start_reg, only_start, base_of_kind, base_of}

-- from an equation of values that are there
some_so : {X : Type 0} (P : X → Type 0) (x y : X) → Some x ≡ Some y → P x → P y
some_so P x y e p = subst P (same_Some x y e) p

module _ (start : Start) (val : ℕ → ℕ) (t : List Node) (table : IsTable t) (is : IsValuation start t val)
    (sound : IsSound t val) where
  start_word : (kind : NodeKind) (reg : ℕ) → start_reg kind ≡ Some reg → kind_value start val kind ≡ start.regs reg
  start_word (kinds.Start r) reg e = some_so (λ x. start.regs r ≡ start.regs x) r reg e refl
  start_word _ reg e = cc

  once : (times x word : ℕ) (b : Bool) (o : Option ℕ) (reg : ℕ) → (times == 1) ≡ b
      → (if b then o else None) ≡ Some reg → (o ≡ Some reg → x ≡ word) → times * x + 0 ≡ word
  once times x word true o reg is e f = let one : times ≡ 1 = grind (arith, nat_tests, is) in
      let same : x ≡ word = f e in ap (λ n. n * x + 0) one ∙ omega (arith, same)
  once times x word false o reg is e f = cc

  -- terms that are one start
  only_word : (terms : List Term) (reg : ℕ) → AreTermsBelow (length t) terms → only_start t terms ≡ Some reg
      → weighted val terms ≡ start.regs reg
  only_word [] reg below e = cc
  only_word (term ∷ []) reg below e =
      once term.times (val term.node) (start.regs reg) (term.times == 1) (start_reg (node_at t term.node).kind) reg
      refl e
      (λ k. is.meets term.node (All-head (λ (u : Term). u.node < length t) term [] below)
      ∙ start_word (node_at t term.node).kind reg k)
  only_word (term ∷ next ∷ more) reg below e = cc

  -- the word of a register, and a constant
  abbrev Has : ℕ → Base → Type 0
  Has n b = val n ≡ (start.regs b.reg + b.offset) % 2 ^ 64

  sum_base : (n k : ℕ) (terms : List Term) (o : Option ℕ) (b : Base) → val n ≡ (k + weighted val terms) % 2 ^ 64
      → ((reg : ℕ) → o ≡ Some reg → weighted val terms ≡ start.regs reg)
      → option_map (λ reg. record { reg = reg; offset = k }) o ≡ Some b → Has n b
  sum_base n k terms None b e f h = cc
  sum_base n k terms (Some reg) b e f h =
      some_so (Has n) (record { reg = reg; offset = k }) b h (let w = f reg refl in omega (arith, e, w))

  kind_base : (n : ℕ) (kind : NodeKind) (b : Base) → n < length t → val n ≡ kind_value start val kind
      → RefersBelow n kind → base_of_kind t kind ≡ Some b → Has n b
  kind_base n (kinds.Start reg) b h e below k = some_so (Has n) (record { reg = reg; offset = 0 }) b k
      (let small = sound.word n h in omega (arith, e, small))
  kind_base n (kinds.Sum c terms) b h e below k = sum_base n c terms (only_start t terms) b e
      (λ reg. only_word terms reg (λ i d j. let l = below i d j in omega (arith, l, h))) k
  kind_base n _ b h e below k = cc

  pub base_word : (n : ℕ) (b : Base) → n < length t → base_of t n ≡ Some b → Has n b
  base_word n b h e = kind_base n (node_at t n).kind b h (is.meets n h) (table.below n h) e
