-- One number more.
use Rattle.std.proofs.Common.{◌<◌, ◌^◌, append_assoc, get_or}
use Rattle.std.proofs.lemmas.List.{append-nil}
use Rattle.std.proofs.Math.Facts.{Fits-lt-pow}
use Rattle.journal_text.proofs.Written.{list_more, list_first, first_take, small_more}
use Rattle.journal_text.proofs.writing.push_list.Goals as goal
use Rattle.journal_text.proofs.writing.push_list.Goals.{then-index-gt0+in_ok-push_str, else-index-gt0}

pub loop-index-preserved : goal.loop-index-preserved
loop-index-preserved c =
    let one : get_or c.args.seeds.now c.loop-index.index 0 < 2 ^ 64 =
    Fits-lt-pow (c.type_inv.seeds c.loop-index.index) in
    record {
      text = elim c.if-index-gt0.branch [
        | then-index-gt0+in_ok-push_str w ↦ rw (
          c.in_ok-push_str-2.ensures.bytes,
          c.format.ensures.text,
          w.text-is,
          w.in_ok-push_str.ensures.bytes,
          c.loop-index.invariant.text,
          list_more c.args.seeds.now c.loop-index.index c.loop-index-test.true w.if-index-gt0.true,
        ) (simp append_assoc)
        | else-index-gt0 w ↦ rw (
          c.in_ok-push_str-2.ensures.bytes,
          c.format.ensures.text,
          w.text-is,
          c.loop-index.invariant.text,
          list_first c.args.seeds.now c.loop-index.index c.loop-index-test.true w.if-index-gt0.false,
          first_take c.args.seeds.now c.loop-index.index w.if-index-gt0.false,
        ) (simp append-nil)
      ];
      small = small_more c.args.seeds.now c.loop-index.index c.loop-index-test.true c.loop-index.invariant.small one;
    }
