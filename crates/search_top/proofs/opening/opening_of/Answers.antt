-- The opening, from the two halves.
use Rattle.std.proofs.Common.{[], ◌∷◌, subst, string_bytes}
use Rattle.search_top.specs.Search.{IsOpening}
use Rattle.search_top.proofs.Openings.{opening_is}
use Rattle.search_top.proofs.opening.opening_of.Goals as goal

pub returns : goal.returns
returns c =
    subst (λ p. IsOpening p (record {
      texts = c.in_ok-opening.opening.text.items ∷ [];
      word = string_bytes c.in_ok-opening.opening.line;
    })) c.in_ok-prepared.ensures
    (opening_is c.in_ok-checked.checked c.in_ok-checked.ensures.program c.in_ok-checked.ensures.listing
    c.in_ok-opening.ensures.text c.in_ok-opening.ensures.line c.in_ok-opening.ensures.fit)
