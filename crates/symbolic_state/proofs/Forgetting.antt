-- Words that are forgotten.
use Rattle.std.proofs.Common.{◌≡◌, ℕ, List, [], ◌∷◌, length, map, replicate, refl, ap, Option, None}

pub map_none : (words : List (Option ℕ))
    → map (λ node. None) words ≡ replicate {A = Option ℕ} (length words) None
map_none [] = refl
map_none (word ∷ words) = ap (λ more. None ∷ more) (map_none words)
