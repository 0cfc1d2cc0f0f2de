-- What `clap` makes of words that are taken for no option.
use Rattle.std.proofs.Common.{◌≡◌, ℕ, Bool, true, false, List, [], ◌∷◌, None, Some, refl, codes}
use Rattle.std.specs.Prelude.{not, ◌==◌, option_map}
use Rattle.std.specs.Str.{bytes_eq}
use Rattle.base.specs.Options.{guard}
use Rattle.clap.specs.Lexer.{long_of, short_of}
use Rattle.clap.proofs.OnLiterals.{clap_on_literals}
use Rattle.command_line.specs.Inputs.{inputs_of}
use Rattle.command_line.specs.Lanes.{are_file_names, lanes_in}
use Rattle.command_line.specs.Lines.{command_of, rows}
use Rattle.command_line.specs.Laws.{is_plain}
use Rattle.command_line.specs.declared.command.Command.TheVariants.{Search, Eval, Emulate, Check, Show, Replay}

-- `clap` takes the word for no option and not for `--`
pub record IsPlainWord (word : List ℕ) : Type 0 where
  pub dashes : bytes_eq word (45 ∷ 45 ∷ []) ≡ false
  pub long : long_of word ≡ None
  pub short : short_of word ≡ None

one_byte : (c : ℕ) (is_dash : Bool) → (c == 45) ≡ is_dash → IsPlainWord (c ∷ [])
one_byte c true e = record { dashes = rw e refl; long = rw e refl; short = rw e refl }
one_byte c false e = record { dashes = rw e refl; long = rw e refl; short = rw e refl }

more_bytes : (c d : ℕ) (cs : List ℕ) (is_dash : Bool) → (c == 45) ≡ is_dash → not is_dash ≡ true
    → IsPlainWord (c ∷ d ∷ cs)
more_bytes c d cs true e plain = absurd (cc)
more_bytes c d cs false e plain = record { dashes = rw e refl; long = rw e refl; short = rw e refl }

pub plain_word : (word : List ℕ) → is_plain word ≡ true → IsPlainWord word
plain_word [] plain = record { dashes = refl; long = refl; short = refl }
plain_word (c ∷ []) plain = one_byte c (c == 45) refl
plain_word (c ∷ d ∷ cs) plain = more_bytes c d cs (c == 45) refl plain

pub search_line : (program asm : List ℕ) → IsPlainWord program → IsPlainWord asm
    → command_of (codes "search" ∷ program ∷ asm ∷ []) ≡ guard (are_file_names program asm) (Search program asm)
unfolding clap_on_literals rows
search_line program asm p a = rw (p.dashes, p.long, p.short, a.dashes, a.long, a.short) refl

pub no_options_line : (program asm journal : List ℕ) → IsPlainWord program → IsPlainWord asm → IsPlainWord journal
    → command_of (codes "search" ∷ program ∷ asm ∷ journal ∷ []) ≡ None
unfolding clap_on_literals rows lanes_in
no_options_line program asm journal p a j =
    rw (p.dashes, p.long, p.short, a.dashes, a.long, a.short, j.dashes, j.long, j.short) refl

pub eval_line : (program : List ℕ) → IsPlainWord program
    → command_of (codes "eval" ∷ program ∷ []) ≡ Some (Eval program [])
unfolding clap_on_literals rows
eval_line program p = rw (p.dashes, p.long, p.short) refl

pub eval_inputs_line : (program list : List ℕ) → IsPlainWord program → IsPlainWord list
    → command_of (codes "eval" ∷ program ∷ codes "--in" ∷ list ∷ []) ≡ option_map (Eval program) (inputs_of list)
unfolding clap_on_literals rows
eval_inputs_line program list p l = rw (p.dashes, p.long, p.short, l.dashes, l.long, l.short) refl

pub inputs_first_line : (program list : List ℕ) → IsPlainWord program → IsPlainWord list
    → command_of (codes "eval" ∷ codes "--in" ∷ list ∷ program ∷ []) ≡ option_map (Eval program) (inputs_of list)
unfolding clap_on_literals rows
inputs_first_line program list p l = rw (l.dashes, l.long, l.short, p.dashes, p.long, p.short) refl

pub inputs_twice_line : (program list other : List ℕ) → IsPlainWord program → IsPlainWord list → IsPlainWord other
    → command_of (codes "eval" ∷ program ∷ codes "--in" ∷ list ∷ codes "--in" ∷ other ∷ []) ≡ None
unfolding clap_on_literals rows
inputs_twice_line program list other p l o =
    rw (p.dashes, p.long, p.short, l.dashes, l.long, l.short, o.dashes, o.long, o.short) refl

pub dashes_line : (program asm : List ℕ)
    → command_of (codes "search" ∷ codes "--" ∷ program ∷ asm ∷ [])
    ≡ guard (are_file_names program asm) (Search program asm)
unfolding clap_on_literals rows
dashes_line program asm = refl

pub emulate_line : (program asm : List ℕ) → IsPlainWord program → IsPlainWord asm
    → command_of (codes "emulate" ∷ program ∷ asm ∷ []) ≡ Some (Emulate program asm [])
unfolding clap_on_literals rows
emulate_line program asm p a = rw (p.dashes, p.long, p.short, a.dashes, a.long, a.short) refl

pub emulate_inputs_line : (program asm list : List ℕ) → IsPlainWord program → IsPlainWord asm → IsPlainWord list
    → command_of (codes "emulate" ∷ program ∷ asm ∷ codes "--in" ∷ list ∷ [])
    ≡ option_map (Emulate program asm) (inputs_of list)
unfolding clap_on_literals rows
emulate_inputs_line program asm list p a l =
    rw (p.dashes, p.long, p.short, a.dashes, a.long, a.short, l.dashes, l.long, l.short) refl

pub check_line : (program asm : List ℕ) → IsPlainWord program → IsPlainWord asm
    → command_of (codes "check" ∷ program ∷ asm ∷ []) ≡ Some (Check program asm)
unfolding clap_on_literals rows
check_line program asm p a = rw (p.dashes, p.long, p.short, a.dashes, a.long, a.short) refl

pub show_line : (asm : List ℕ) → IsPlainWord asm → command_of (codes "show" ∷ asm ∷ []) ≡ Some (Show asm)
unfolding clap_on_literals rows
show_line asm a = rw (a.dashes, a.long, a.short) refl

pub replay_line : (program journal asm : List ℕ) → IsPlainWord program → IsPlainWord journal → IsPlainWord asm
    → command_of (codes "replay" ∷ program ∷ journal ∷ asm ∷ []) ≡ Some (Replay program journal asm)
unfolding clap_on_literals rows
replay_line program journal asm p j a =
    rw (p.dashes, p.long, p.short, j.dashes, j.long, j.short, a.dashes, a.long, a.short) refl
