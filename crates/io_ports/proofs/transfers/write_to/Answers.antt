-- The loop of `write_to`: after one more write, and at one that failed.
use Rattle.std.proofs.Common.{◌≡◌, ◌++◌, ◌-◌, ◌∙◌, ℕ, List, length, take, drop, ap, sym, append_assoc}
use Rattle.std.proofs.lemmas.List.{take-append-drop, take_rest}
use Rattle.std.proofs.KnownBytes.{Appends-trans}
use Rattle.io_ports.proofs.transfers.write_to.Goals as goal

-- the bytes are what was sent, then n more, and then the rest
split_again : (all sent rest : List ℕ) (n : ℕ) → all ≡ sent ++ rest
    → all ≡ (sent ++ take n rest) ++ take (length rest - n) (drop n rest)
split_again all sent rest n whole =
    rw (take_rest rest n) (whole ∙ ap (λ l. sent ++ l) (sym (take-append-drop n rest))
    ∙ sym (append_assoc sent (take n rest) (drop n rest)))

-- what was sent so far, and then what this write took
pub loop-rest-preserved : goal.loop-rest-preserved
loop-rest-preserved g c =
    let sent = c.loop-rest.invariant in
    let rest = c.loop-rest.rest.now in
    let n = c.in_ok-count.count in
    let wrote = c.in_ok-count.ensures in (
      sent.0 ++ take n rest,
      split_again c.args.bytes.now sent.0 rest n sent.1,
      Appends-trans _ _ _ sent.0 (take n rest) sent.2 wrote.bytes.2,
      wrote.state ∙ sent.3,
    )
