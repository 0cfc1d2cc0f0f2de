-- The pieces of the text, joined.
use Rattle.std.proofs.Common.{append_assoc}
use Rattle.journal_text.proofs.Written.{text_pieces}
use Rattle.journal_text.proofs.writing.text_of.Goals as goal

pub returns-clause-text : goal.returns-clause-text
returns-clause-text c =
    rw (
      text_pieces c.args.journal.now,
      c.into_bytes.ensures.value,
      c.in_ok-push_str.ensures.bytes,
      c.in_ok-push_entries.ensures,
      c.in_ok-push_numbers.ensures,
      c.in_ok-push_seeds.ensures.text,
      c.in_ok-push_program.ensures.text,
      c.in_ok-push_version.ensures,
      c.new-text.ensures.bytes,
      c.items.ensures,
      c.items-2.ensures,
    )
    (simp append_assoc)
