-- Each line, by what `clap` makes of its words.
use Rattle.command_line.proofs.LanesLine.{lanes_line}
use Rattle.command_line.proofs.PlainWords.{plain_word, search_line, dashes_line, no_options_line}
use Rattle.command_line.proofs.PlainWords.{eval_line, replay_line}
use Rattle.command_line.proofs.PlainWords.{eval_inputs_line, inputs_first_line, inputs_twice_line}
use Rattle.command_line.proofs.PlainWords.{emulate_line, emulate_inputs_line, check_line, show_line}
use Rattle.command_line.proofs.laws.plain_lines_are_commands.Goals as goal

pub returns : goal.returns
returns c = record {
  search = λ program asm p a. search_line program asm (plain_word program p) (plain_word asm a);
  after_dashes = dashes_line;
  lanes = λ program asm journal seeds workers turns p a j s w t.
      lanes_line program asm journal seeds workers turns (plain_word program p) (plain_word asm a)
      (plain_word journal j) (plain_word seeds s) (plain_word workers w) (plain_word turns t);
  no_options = λ program asm journal p a j.
      no_options_line program asm journal (plain_word program p) (plain_word asm a) (plain_word journal j);
  eval = λ program p. eval_line program (plain_word program p);
  eval_inputs = λ program list p l. eval_inputs_line program list (plain_word program p) (plain_word list l);
  inputs_first = λ program list p l. inputs_first_line program list (plain_word program p) (plain_word list l);
  two_lists = λ program list other p l o.
      inputs_twice_line program list other (plain_word program p) (plain_word list l) (plain_word other o);
  emulate = λ program asm p a. emulate_line program asm (plain_word program p) (plain_word asm a);
  emulate_inputs = λ program asm list p a l.
      emulate_inputs_line program asm list (plain_word program p) (plain_word asm a) (plain_word list l);
  check = λ program asm p a. check_line program asm (plain_word program p) (plain_word asm a);
  show = λ asm a. show_line asm (plain_word asm a);
  replay = λ program journal asm p j a.
      replay_line program journal asm (plain_word program p) (plain_word journal j) (plain_word asm a);
}
