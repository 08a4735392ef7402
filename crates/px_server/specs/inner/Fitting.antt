-- When an index fits the record of its definition.
use Rattle.std.specs.Prelude.{◌≡◌, ◌<◌, ◌≤◌, ◌+◌, ℕ, length}
use Rattle.px_schema.specs.Format.{greatest_count}
use Rattle.px_schema.specs.Parts.{greatest_id, greatest_stamp, name_piece}
use Rattle.px_schema.specs.Stands.{stands_after}
use Rattle.px_schema.specs.declared.item.CatalogItem.TheVariants.{IndexIs}
use Rattle.px_schema.specs.declared.standing.Standing.{Standing}
use Rattle.px_tables.specs.declared.index.Index.{Index}
use Rattle.px_tables.specs.declared.index.IndexState.TheVariants.{Active}
use Rattle.px_tables.specs.declared.index.NewIndex.{NewIndex}
use Rattle.px_trail.specs.Trail.{made_index}
use Rattle.px_server.specs.declared.defining.prepared.IndexToPut.{IndexToPut}
use Rattle.px_server.specs.declared.defining.prepared.IndexToMake.{IndexToMake}

-- its name, its numbers and its lists fit their fields
pub record FitsRecord (i : Index) : Type 0 where
  pub name_right : name_piece.right i.name
  pub id : i.id.0 ≤ greatest_id
  pub region : i.region ≤ greatest_id
  pub birth : i.birth ≤ greatest_stamp
  pub parts : 0 < length i.parts
  pub parts_few : length i.parts < 256
  pub included_few : length i.included < 256

-- and a snapshot has room for one index more
pub record CanRecord (s : Standing) (i : Index) : Type 0 where
  pub fits : FitsRecord i
  pub few : length s.indexes < greatest_count

-- an index that is to be made at the stamp, with the next numbers
pub record IsIndexToMake (s : Standing) (stamp : ℕ) (what : NewIndex) (p : IndexToMake) : Type 0 where
  pub can : CanRecord s p.index
  pub index : p.index ≡ made_index s.next (record { 0 = s.next + 1 }) stamp what
  pub item_is : p.item ≡ p.index
  pub what_is : p.what ≡ what
  pub standing : p.standing ≡ stands_after s (IndexIs p.index)

-- an index that is to become active
pub record IsIndexToActivate (s : Standing) (i : Index) (p : IndexToPut) : Type 0 where
  pub can : CanRecord s p.item
  pub item_is : p.item ≡ record i { state = Active }
  pub standing : p.standing ≡ stands_after s (IndexIs p.item)
