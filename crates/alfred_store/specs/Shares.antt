-- Which facts a node tells, by their marks. The main word is `is_shared`.
use Rattle.std.specs.Prelude.{Bool}
use Rattle.mesh_model.specs.declared.service.Mark.{Mark}
use Rattle.mesh_model.specs.Knowledge.FactStore.{is_at_first_hand, is_own}
use Rattle.alfred_store.specs.declared.share.Share.{Share}
use Rattle.alfred_store.specs.declared.share.Share.TheVariants.{Own, FirstHand}

-- whether a fact of a mark is among those that are told
abbrev pub is_shared : Share → Mark → Bool
is_shared Own = is_own
is_shared FirstHand = is_at_first_hand
