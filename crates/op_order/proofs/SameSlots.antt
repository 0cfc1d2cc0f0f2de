-- `==` of slots decides whether they are the same.
use Rattle.std.proofs.Common.{◌≡◌, Bool, List, ap}
use Rattle.std.specs.Prelude.{Decides, ◌==◌}
use Rattle.std.specs.Cmp.{booleans_Decides}
use Rattle.std.specs.Cmp.Lexicographic.{pointwise}
use Rattle.std.proofs.lemmas.Bool.Decides.{Decides-like, Decides-and, Decides-eqb}
use Rattle.std.proofs.lemmas.Slice.Eq.{slice_eq-Decides}
use Rattle.op_order.specs.declared.slot.Slot.{Slot}
use Rattle.op_order.specs.contracts.slot.SlotPartialEq.TheImpl as slot_impl

pub slot_decides : (a b : Slot) → Decides ((slot_impl.eq-value).it a b) (a ≡ b)
slot_decides a b =
    Decides-like ((slot_impl.eq-value).it a b)
    (λ h i. record { op = h.0 i; template = h.1.0 i; swap = h.1.1.0 i; load_first = h.1.1.1 i })
    (λ (e : a ≡ b). (
      ap (λ (s : Slot). s.op) e,
      (ap (λ (s : Slot). s.template) e, (ap (λ (s : Slot). s.swap) e, ap (λ (s : Slot). s.load_first) e)),
    ))
    (Decides-and _ _ (Decides-eqb a.op b.op)
    (Decides-and _ _ (Decides-eqb a.template b.template)
    (Decides-and _ _ (booleans_Decides a.swap b.swap) (booleans_Decides a.load_first b.load_first))))

pub slots_decide : (xs ys : List Slot) (r : Bool) → r ≡ pointwise (slot_impl.eq-value).it xs ys → Decides r (xs ≡ ys)
slots_decide xs ys r e = slice_eq-Decides slot_decides xs ys r e
