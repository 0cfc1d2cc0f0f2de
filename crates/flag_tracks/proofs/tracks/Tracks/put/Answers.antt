-- The flag is emptied, the value leaves its home, and gets the new one.
use Rattle.std.proofs.Common.{◌∙◌, length, ap}
use Rattle.std.specs.Prelude.{slice_set}
use Rattle.std.proofs.lemmas.List.{set-set, length-set}
use Rattle.flag_tracks.specs.declared.home.Home.TheVariants.{Gone}
use Rattle.flag_tracks.specs.Homes.{put_home, emptied, flag_of}
use Rattle.flag_tracks.proofs.HomeLemmas.{length_emptied, emptied_settled}
use Rattle.flag_tracks.proofs.tracks.Tracks.put.Goals as goal

pub lose-requires : goal.lose-requires
lose-requires c = let e = c.empty.ensures in let r = c.requires in let f = c.flag_of.ensures in
    let n = length_emptied c.flag_of.result c.args.self.now in rw e (rw n r)

pub settle-requires-clause-range : goal.settle-requires-clause-range
settle-requires-clause-range c = let e = c.empty.ensures in let r = c.requires in let l = c.lose.ensures in
    let n = length_emptied c.flag_of.result c.args.self.now in
    rw l (rw (length-set c.empty.new.self c.args.value Gone) (rw e (rw n r)))

pub settle-requires-clause-free : goal.settle-requires-clause-free
settle-requires-clause-free c = rw (c.lose.ensures, c.empty.ensures, c.flag_of.ensures)
    (emptied_settled (flag_of c.args.home) c.args.self.now c.args.value)

pub returns-clause-homes : goal.returns-clause-homes
unfolding put_home
returns-clause-homes c = c.settle.ensures ∙ ap (λ hs. slice_set hs c.args.value c.args.home) (c.lose.ensures)
    ∙ set-set c.empty.new.self c.args.value Gone c.args.home
    ∙ ap (λ hs. slice_set hs c.args.value c.args.home) (c.empty.ensures
    ∙ ap (λ f. emptied f c.args.self.now) c.flag_of.ensures)

pub returns-clause-count : goal.returns-clause-count
returns-clause-count c = ap length c.settle.ensures ∙ length-set c.lose.new.self c.args.value c.args.home
    ∙ ap length c.lose.ensures ∙ length-set c.empty.new.self c.args.value Gone ∙ ap length c.empty.ensures
    ∙ length_emptied c.flag_of.result c.args.self.now
