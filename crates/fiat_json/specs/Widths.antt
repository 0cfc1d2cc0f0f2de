-- The greatest number of items of an array in a JSON value.
use Rattle.std.specs.Prelude.{ℕ, suc, max}
use Rattle.serde_json.specs.Data.{Data, null, boolean, number, string, array, object, Items, no_items, item, Members}
use Rattle.serde_json.specs.Data.{no_members, member}

-- how many items there are
abbrev pub count : Items → ℕ
count no_items = 0
count (item d ds) = suc (count ds)

-- the greatest number of items of an array in a value, in the items of an array and in the members of an object
abbrev mutual
  pub widest : Data → ℕ
  widest null = 0
  widest (boolean b) = 0
  widest (number n) = 0
  widest (string s) = 0
  widest (array ds) = max (count ds) (widest_item ds)
  widest (object ms) = widest_member ms

  pub widest_item : Items → ℕ
  widest_item no_items = 0
  widest_item (item d ds) = max (widest d) (widest_item ds)

  pub widest_member : Members → ℕ
  widest_member no_members = 0
  widest_member (member k d ms) = max (widest d) (widest_member ms)
