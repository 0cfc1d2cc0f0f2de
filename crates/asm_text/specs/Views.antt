-- How the code reads; no part of a promise. What its own types stand for.
use Rattle.asm_text.specs.Items.{Item, blank, syntax_line, text_line, global, label, code}
use Rattle.asm_text.specs.Reading.{Stage, start, syntax, text, named, body}
use Rattle.asm_text.specs.declared.items.Item as declared
use Rattle.asm_text.specs.declared.items.Item.TheVariants as items
use Rattle.asm_text.specs.declared.reading.Stage as stages_type
use Rattle.asm_text.specs.declared.reading.Stage.TheVariants as stages

abbrev pub item_view : declared.Item → Item
item_view items.Blank = blank
item_view items.Syntax = syntax_line
item_view items.Text = text_line
item_view (items.Global name) = global name.now
item_view (items.Label name) = label name.now
item_view (items.Code line) = code line

abbrev pub stage_view : stages_type.Stage → Stage
stage_view stages.Start = start
stage_view stages.Syntax = syntax
stage_view stages.Text = text
stage_view (stages.Named name) = named name.now
stage_view (stages.Body name) = body name.now
