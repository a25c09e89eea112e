-- The laws of pictures: what is spelled is read again, what is read is spelled so, and the picture
-- that a node gives of itself fits a part of the fact store.
use Rattle.std.specs.Prelude.{◌≡◌, ℕ, ◌^◌, ◌<◌, ◌≤◌, All, List, Some, length}
use Rattle.mesh_base.specs.declared.address.Mac.{Mac}
use Rattle.mesh_base.specs.declared.client.Entry.{Entry}
use Rattle.mesh_model.specs.Packets.FactMessages.{fact_spelling}
use Rattle.mesh_model.specs.Packets.Pictures.{Picture, picture_of_bytes, picture_spelling}
use Rattle.mesh_model.specs.Routes.Queries.{Queries}
use Rattle.mesh_model.specs.Routes.RouteLog.{RouteLog}
use Rattle.mesh_model.specs.Services.Parts.{part_room}
use Rattle.mesh_model.specs.Services.Pictures.{most_clients, most_neighbours, own_picture, picture_fact}
use Rattle.mesh_tvlv.specs.Laws.{FitsKey}

-- a neighbour whose address has six bytes, and whose metric fits four
pub record FitsNeighbour (neighbour : Mac × ℕ) : Type 0 where
  pub address : length neighbour.0.0 ≡ 6
  pub metric : neighbour.1 < 2 ^ 32

-- a picture whose fields fit their bytes
pub record FitsPicture (picture : Picture) : Type 0 where
  pub neighbours : All FitsNeighbour picture.neighbours
  pub clients : All FitsKey picture.clients

-- a spelled picture is read again
abbrev pub IsPictureReadAgain : Type 0
IsPictureReadAgain = (picture : Picture) → FitsPicture picture →
    picture_of_bytes (picture_spelling picture) ≡ Some picture

-- bytes that are read as a picture are its spelling
abbrev pub IsReadPictureSpelled : Type 0
IsReadPictureSpelled = (bytes : List ℕ) (picture : Picture) → All (λ byte. byte < 2 ^ 8) bytes →
    picture_of_bytes bytes ≡ Some picture → picture_spelling picture ≡ bytes

-- a picture has no more neighbours and clients than are written, and a part has room for its fact
pub record FitsPart (me : Mac) (picture : Picture) : Type 0 where
  pub few_neighbours : length picture.neighbours ≤ most_neighbours
  pub few_clients : length picture.clients ≤ most_clients
  pub has_room : length me.0 ≡ 6 → FitsPicture picture →
      length (fact_spelling (picture_fact me picture)) ≤ part_room

-- so it is with the picture that a node gives of itself
abbrev pub OwnPicturesFit : Type 0
OwnPicturesFit = (q : Queries) (me : Mac) (routes : RouteLog) (now : ℕ) (table : List Entry) →
    FitsPart me (own_picture q routes now table)
