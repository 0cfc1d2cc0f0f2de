-- The index finds the new name under its number, and every other name as before.
use Rattle.std.proofs.Common.{◌≡◌, ◌∙◌, ℕ, List, sym, map}
use Rattle.std.proofs.lemmas.List.{map-append, length-map}
use Rattle.std.proofs.lemmas.Map.Text.{btree_map_updates_str}
use Rattle.std.proofs.Common.{true, false, None, rules, ap, length}
use Rattle.base.specs.Identifiers.{is_identifier}
use Rattle.word_program.specs.Rules.{value_named}
use Rattle.word_program.proofs.NameLemmas.{known_unnamed, known_more}
use Rattle.word_program.proofs.scope.BodyScope.add.Goals as goal

pub invariant_of-self-then-not-is_identifier : goal.invariant_of-self-then-not-is_identifier
invariant_of-self-then-not-is_identifier c = (
  c.self.invariant.0,
  c.self.invariant.1,
  λ (t : List ℕ).
      let other : is_identifier c.args.text.now ≡ false = search rules in
      rw (c.in_ok-push-2.ensures.items, map-append)
      (c.self.invariant.2 t ∙ sym (known_unnamed _ _ t other)),
)

pub invariant_of-self-2 : goal.invariant_of-self-2
invariant_of-self-2 c = (
  c.self.invariant.0,
  c.self.invariant.1,
  λ (t : List ℕ).
      let named : is_identifier c.args.text.now ≡ true = search rules in
      let new : value_named (map (λ n. n.now) c.self.inside.names.items) c.args.text.now ≡ None = search rules in
      let count : length c.as_slice.result.now ≡ length (map (λ n. n.now) c.self.inside.names.items) =
      ap length c.as_slice.ensures.value ∙ sym (length-map c.self.inside.names.items _) in
      rw (c.push_reserved.ensures.items, map-append)
      (btree_map_updates_str c.args.text.now c.self.inside.index c.insert.new.self _ c.in_ok-insert.ensures.updates t
      ∙ rw (c.self.invariant.2 t, count, c.try_reserve.ensures.items) (sym (known_more _ _ t named new))),
)
