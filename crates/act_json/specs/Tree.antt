-- The data of a JSON tree over borrowed text, as serde_json reads it.
use Rattle.std.specs.Prelude.{ℕ, ◌||◌, Bool, true, false, if◌then◌else◌, List, Option, None, Result, option_and_then}
use Rattle.std.specs.Borrow.{Bor}
use Rattle.std.specs.Option.{ok_or, unwrap_or}
use Rattle.std.specs.Str.{is_utf8}
use Rattle.std.specs.declared.alloc.Global.{Global}
use Rattle.json.specs.Json as json
use Rattle.json.specs.Lex.{tokens}
use Rattle.json.specs.Value.{members_view, value_view}
use Rattle.json.specs.declared.value.Value.{Value}
use Rattle.serde_json.specs.Data.{Data, null, boolean, number, string, array, object, unsigned, Items, no_items, item, Members, no_members, put}
use Rattle.serde_json.specs.Read.{max_depth, number_of, read}
use Rattle.act_json.specs.declared.fault.JsonFault.{JsonFault}
use Rattle.act_json.specs.declared.fault.JsonFault.TheVariants.{NotJson}
use Rattle.act_json.specs.declared.tree.Object.{Object}

-- the data of a tree: what serde_json reads for it, but for numbers out of range, which it refuses and which are 0 here. Of
-- members of one name the last stays
abbrev mutual
  pub data_of : json.Json → Data
  data_of json.null = null
  data_of (json.boolean b) = boolean b
  data_of (json.number text) = number (unwrap_or (number_of text) (unsigned 0))
  data_of (json.string text) = string text
  data_of (json.array items) = array (data_of_items items)
  data_of (json.object members) = object (put_members members no_members)

  pub data_of_items : json.Items → Items
  data_of_items json.no_items = no_items
  data_of_items (json.item value items) = item (data_of value) (data_of_items items)

  -- the members that were found, with those put in behind them
  pub put_members : json.Members → Members → Members
  put_members json.no_members found = found
  put_members (json.member name value members) found = put_members members (put name (data_of value) found)

-- whether a bare number stands in a tree
abbrev mutual
  pub has_number : json.Json → Bool
  has_number json.null = false
  has_number (json.boolean b) = false
  has_number (json.number text) = true
  has_number (json.string text) = false
  has_number (json.array items) = items_have_number items
  has_number (json.object members) = members_have_number members

  pub items_have_number : json.Items → Bool
  items_have_number json.no_items = false
  items_have_number (json.item value items) = has_number value || items_have_number items

  pub members_have_number : json.Members → Bool
  members_have_number json.no_members = false
  members_have_number (json.member name value members) = has_number value || members_have_number members

-- the data of a value
abbrev pub data_in : Value Global → Data
data_in value = data_of (value_view value)

-- the names of members, each with its value
abbrev pub Listed : Type 0
Listed = List (Bor (List ℕ) × Value Global)

-- the data of the object that has these members
abbrev pub object_in : Listed → Data
object_in members = data_of (json.object (members_view members))

-- the same of an object whose members are at hand
abbrev pub object_of : Object → Data
object_of value = object_in value.members.now

-- the tree that a text is, nested at most 127 deep
abbrev pub tree_of : List ℕ → Option json.Json
tree_of text = option_and_then (λ p. json.if_last p.0 p.1) (json.value max_depth (tokens text))

-- the JSON value that bytes are read as where they stand, with no number put in quotes, or NotJson
abbrev pub json_as_is : List ℕ → Result Data JsonFault
json_as_is bytes = ok_or (if is_utf8 bytes then read bytes else None) NotJson
