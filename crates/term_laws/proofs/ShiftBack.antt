-- A constant is added to a bit and taken away again: this is the bit's own node.
use Rattle.std.proofs.Common.{◌≡◌, ◌≢◌, ℕ, ◌+◌, ◌-◌, ◌^◌, ◌%◌, ◌<◌, ◌≤◌, List, [], ◌∷◌, length, get_or}
use Rattle.std.proofs.Common.{true, false, eqb, leb, refl, sym, ap, ◌∙◌, subst, arith}
use Rattle.intervals.specs.declared.interval.Interval.{Interval}
use Rattle.terms.specs.declared.lists.Term.{Term}
use Rattle.terms.specs.declared.nodes.Node.{Node}
use Rattle.terms.specs.declared.nodes.NodeKind.TheVariants as kinds
use Rattle.terms.specs.declared.nodes.Form.TheVariants as forms
use Rattle.terms.specs.declared.nodes.Built.{Built}
use Rattle.terms.specs.Tables.{node_at, Prefix}
use Rattle.terms.specs.Sums.{itself, constant_of, terms_of, sum_interval}
use Rattle.terms.specs.Rules.{const_node, finished, no_term, sum_of, normal_of}
use Rattle.terms.proofs.Cases.{by_if, from_eqb, from_not_leb, first_true, second_true}
use Rattle.terms.proofs.Joined.{Ascends}
use Rattle.term_store.specs.Interning.{Interned, interned, entered, made}
use Rattle.term_store.proofs.Prefixes.{at_front, prefix_length, prefix_push, prefix_refl, prefix_trans}
use Rattle.term_store.proofs.Made.{by_interned, made_prefix, interned_place}
use Rattle.term_laws.proofs.Entries.{IsBase}
use Rattle.term_laws.proofs.SumTerms.{IsOther, AreOthers, ascends_within}
use Rattle.term_laws.proofs.SumNodes.{is_one}
use Rattle.term_laws.proofs.SumOpened.{wide_for, Opens, opens_later, opens_other, lin_opened, lin_with_constant}
use Rattle.term_laws.proofs.BitOpened.{bit_back}

-- ---- what is made of the terms with another constant

-- the number is opened to them in every longer table
record AreOpened (j : ℕ) (ts : List Term) (r : Interned) : Type 0 where
  each : {w : List Node} → Prefix r.table w → Opens w r.number j ts

module _ (t u : List Node) (p : Prefix t u) (j : ℕ) where
  longer : (ts : List Term) → Ascends 0 (length t) ts → {w : List Node} → Prefix u w → Ascends 0 (length w) ts
  longer ts ascends {w} q =
      ascends_within 0 0 (length t) (length w) ts (omega arith) (prefix_length (prefix_trans p q)) ascends

  made_opened : (node : Node) (ts : List Term) → Ascends 0 (length t) ts → constant_of true node.kind ≡ j
      → ((n : ℕ) → terms_of true n node.kind ≡ ts) → AreOpened j ts (interned u node)
  made_opened node ts ascends c e = record {
    each = λ {w} q.
        let place = interned_place u node in
        let here = at_front (interned u node).number q place.within ∙ place.here in
        let grown = by_interned (λ (r : Interned). Prefix u r.table) u node (λ n _. prefix_refl u)
        (λ _. prefix_push u node) in
        record {
          constant = ap (λ (n : Node). constant_of true n.kind) here ∙ c;
          terms = ap (λ (n : Node). terms_of true (interned u node).number n.kind) here ∙ e (interned u node).number;
          ascends = longer ts ascends (prefix_trans grown q);
        };
  }

  -- no terms: the constant
  none_opened : (ts : List Term) → eqb (length ts) 0 ≡ true → AreOpened j ts (interned u (const_node j))
  none_opened [] e = made_opened (const_node j) [] tt refl (λ n. refl)
  none_opened (x ∷ ts) e = absurd (let f = from_eqb (length (x ∷ ts)) 0 e in omega arith)

  -- nothing but one term: its node
  one_opened : (ts : List Term) → Ascends 0 (length t) ts → AreOthers t ts → is_one j ts ≡ true
      → AreOpened j ts (record { table = u; number = (get_or ts 0 no_term).node })
  one_opened [] a others e =
      let f : 0 ≡ 1 = from_eqb 0 1 (first_true (eqb 0 1) (eqb (get_or [] 0 no_term).times 1)
      (second_true (eqb j 0) _ e)) in
      absurd (omega (arith, f))
  one_opened (x ∷ y ∷ ts) a others e =
      let f : length (x ∷ y ∷ ts) ≡ 1 = from_eqb (length (x ∷ y ∷ ts)) 1
      (first_true (eqb (length (x ∷ y ∷ ts)) 1) (eqb x.times 1) (second_true (eqb j 0) _ e)) in
      absurd (omega (arith, f))
  one_opened (x ∷ []) a others e =
      let z : j ≡ 0 = from_eqb j 0 (first_true (eqb j 0) _ e) in
      let o : x.times ≡ 1 = from_eqb x.times 1
      (second_true (eqb (length (x ∷ [])) 1) (eqb x.times 1) (second_true (eqb j 0) _ e)) in
      let same : itself x.node ≡ x ∷ [] = λ i. record { times = sym o i; node = x.node } ∷ [] in
      subst (λ (ts : List Term). AreOpened j ts (record { table = u; number = x.node })) same
      (subst (λ (k : ℕ). AreOpened k (itself x.node) (record { table = u; number = x.node })) (sym z)
      (record {
        each = λ {w} q.
            let all = prefix_trans p q in
            let longer = prefix_length all in
            opens_other w x.node (let l = a.1 in omega arith)
            (subst (λ (n : Node). IsOther n.kind) (sym (at_front x.node all a.1)) others.0);
      }))

  -- few terms: their sum's node, where it stands for more than one word
  sum_opened : (ts : List Term) → Ascends 0 (length t) ts → (i : Interval) → i.low ≢ i.high
      → AreOpened j ts (interned u (finished (kinds.Sum j ts) i))
  unfolding finished
  sum_opened ts a i apart =
      by_if (λ (n : Node). AreOpened j ts (interned u n)) (eqb i.low i.high) _ _
      (λ e. absurd (apart (from_eqb i.low i.high e)))
      (λ e. made_opened (record { kind = kinds.Sum j ts; low = i.low; high = i.high }) ts a refl (λ n. refl))

  all_opened : (ts : List Term) (wide : Built) → Ascends 0 (length t) ts → AreOthers t ts → length ts ≤ 16
      → (eqb (length ts) 0 ≡ false → (sum_interval u j ts).low ≢ (sum_interval u j ts).high)
      → AreOpened j ts (entered u (sum_of u j ts wide))
  unfolding sum_of
  all_opened ts wide a others few apart =
      let P : Built → Type 0 = λ r. AreOpened j ts (entered u r) in
      by_if P (eqb (length ts) 0) _ _ (λ e. none_opened ts e)
      (λ some. by_if P (is_one j ts) _ _ (λ e. one_opened ts a others e)
      (λ _. by_if P (leb (length ts) 16) _ _ (λ _. sum_opened ts a (sum_interval u j ts) (apart some))
      (λ many. absurd (let l = from_not_leb (length ts) 16 many in omega arith))))

-- ---- added and taken away again

-- 2^63 - 2 more, and 2^63 + 2 more
pub shift_back : {t u w : List Node} (c m : ℕ) → IsBase t → Prefix t u → c < length t → (node_at t c).high ≤ 1
    → m < length u → node_at u m ≡ const_node (2 ^ 63 - 2)
    → Prefix (made u (forms.Lin 0 (record { times = 1; node = c } ∷ record { times = 1; node = m } ∷ []))).table w
    → made w (forms.Lin (2 ^ 63 + 2) (record {
      times = 1;
      node = (made u (forms.Lin 0 (record { times = 1; node = c } ∷ record { times = 1; node = m } ∷ []))).number;
    } ∷ []))
    ≡ record { table = w; number = c }
unfolding made normal_of
shift_back {t} {u} {w} c m base p h bit i e q =
    let b = bit_back t c base h bit in
    let form = forms.Lin 0 (record { times = 1; node = c } ∷ itself m) in
    let j = (b.k + (2 ^ 63 - 2)) % 2 ^ 64 in
    let first = lin_with_constant u c b.k b.ts (opens_later c b.k b.ts p h b.opens) m 1 (2 ^ 63 - 2) e in
    let opened : AreOpened j b.ts (made u form) =
    subst (λ (r : Built). AreOpened j b.ts (entered u r)) (sym first)
    (all_opened t u p j b.ts (wide_for u 0 (record { times = 1; node = c } ∷ itself m)) b.opens.ascends b.others b.few
    (b.apart p j)) in
    let wide = wide_for w (2 ^ 63 + 2) (itself (made u form).number) in
    let again = lin_opened w (made u form).number j b.ts (opened.each q) (2 ^ 63 + 2) in
    let word = b.word in
    let same : (2 ^ 63 + 2 + j) % 2 ^ 64 ≡ b.k = omega arith in
    ap (entered w) again ∙ ap (λ (k : ℕ). entered w (sum_of w k b.ts wide)) same
    ∙ b.back (prefix_trans p (prefix_trans (made_prefix u form) q)) wide
