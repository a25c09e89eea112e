-- What a net keeps of a mesh besides its nodes: a row for each link, how many frames it carried,
-- the places of the links that leave each node, the gateways of each LAN, of each link frame its
-- link and its sending, and of each LAN frame its LAN, its sending and who put it. An act is one
-- sending; the link frames of an act share it. The main word is `PostStands`.
use Rattle.std.specs.Prelude.{◌≡◌, ℕ, ◌+◌, ◌<◌, ◌≤◌, List, [], ◌∷◌, length, map, slice_get, Some, None, ⊤}
use Rattle.mesh_model.specs.Net.Mesh.{NodeLog, NetLink, NetLan, SentFrame, LanPut, Mesh, address_at}
use Rattle.mesh_model.specs.Net.Limits.{frames_limit, frame_bytes_limit}
use Rattle.mesh_model.specs.Net.Sending.{frames_on, put_bytes, total_bytes, ways}
use Rattle.mesh_model.specs.Scenario.LinkOptions.{least_delay, delay_limit}
use Rattle.mesh_post.specs.declared.post.Post.{Post}
use Rattle.mesh_post.specs.declared.row.Row.{Row}
use Rattle.mesh_post.specs.declared.posted.Posted.{Posted}
use Rattle.mesh_post.specs.declared.row.Put.{Put}
use Rattle.mesh_post.specs.declared.row.Sending.{Sending}

-- a row is that of a link, with the addresses at its ends
pub record RowIs (nodes : List NodeLog) (link : NetLink) (row : Row) : Type 0 where
  pub from : row.from ≡ link.from
  pub to : row.to ≡ link.to
  pub start : row.start ≡ address_at link.from nodes
  pub end : row.end ≡ address_at link.to nodes
  pub delay : row.delay ≡ link.delay
  pub pattern : row.pattern ≡ link.pattern
  pub throughput : row.tp ≡ link.throughput
  pub starts : link.from < length nodes
  pub ends : link.to < length nodes
  pub least : least_delay ≤ link.delay
  pub most : link.delay ≤ delay_limit

-- the row at the place of a link
pub record HasRow (nodes : List NodeLog) (rows : List Row) (place : ℕ) (link : NetLink)
    : Type 0 where
  pub row : Row
  pub found : slice_get rows place ≡ Some row
  pub is : RowIs nodes link row

-- each link has its row
pub record RowsAre (nodes : List NodeLog) (links : List NetLink) (rows : List Row) : Type 0 where
  pub count : length rows ≡ length links
  pub each : (place : ℕ) (link : NetLink) → slice_get links place ≡ Some link
      → HasRow nodes rows place link

-- how many frames each link carried
pub record TurnsAre (links : List NetLink) (frames : List SentFrame) (turns : List ℕ) : Type 0 where
  pub count : length turns ≡ length links
  pub each : (place turn : ℕ) → slice_get turns place ≡ Some turn → turn ≡ frames_on place frames

-- the places of the links that leave each node
pub record WaysAre (nodes : List NodeLog) (links : List NetLink) (places : List (List ℕ)) : Type 0
  where
    pub count : length places ≡ length nodes
    pub each : (place : ℕ) (leaving : List ℕ) → slice_get places place ≡ Some leaving
        → leaving ≡ ways [] place None 0 links

-- a frame is kept as its link and its sending
pub record FrameIs (sendings : List Sending) (frame : SentFrame) (posted : Posted) : Type 0 where
  pub link : posted.link ≡ frame.link
  pub sending : Sending
  pub found : slice_get sendings posted.sending ≡ Some sending
  pub bytes : sending.bytes ≡ frame.bytes
  pub root : sending.root ≡ frame.root

-- each frame is kept so, in the order of sending
abbrev pub FramesAre : List Sending → List SentFrame → List Posted → Type 0
FramesAre sendings [] [] = ⊤
FramesAre sendings [] (posted ∷ more) = ⊥
FramesAre sendings (frame ∷ frames) [] = ⊥
FramesAre sendings (frame ∷ frames) (posted ∷ more) =
    FrameIs sendings frame posted × FramesAre sendings frames more

-- a LAN frame is kept as its LAN, its sending and the gateway that put it, where one did
pub record PutIs (sendings : List Sending) (put : LanPut) (kept : Put) : Type 0 where
  pub lan : kept.lan ≡ put.lan
  pub by : kept.by ≡ put.by
  pub sending : Sending
  pub found : slice_get sendings kept.sending ≡ Some sending
  pub bytes : sending.bytes ≡ put.bytes

-- each LAN frame is kept so, in the order of putting
abbrev pub PutsAre : List Sending → List LanPut → List Put → Type 0
PutsAre sendings [] [] = ⊤
PutsAre sendings [] (kept ∷ more) = ⊥
PutsAre sendings (put ∷ puts) [] = ⊥
PutsAre sendings (put ∷ puts) (kept ∷ more) =
    PutIs sendings put kept × PutsAre sendings puts more

-- the places of the gateways of each LAN
abbrev pub gateways_of : List NetLan → List (List ℕ)
gateways_of lans = map (λ (lan : NetLan). lan.gateways) lans

-- how many frames a mesh has, on links and on LANs
abbrev pub frames_in : Mesh → ℕ
frames_in mesh = length mesh.frames + length mesh.puts

-- how many bytes they have
abbrev pub bytes_in : Mesh → ℕ
bytes_in mesh = total_bytes mesh.frames + put_bytes mesh.puts

-- what is kept is what a mesh has, with these sendings
pub record PostStands (post : Post) (sendings : List Sending) (mesh : Mesh) : Type 0 where
  pub rows : RowsAre mesh.nodes mesh.links post.rows
  pub turns : TurnsAre mesh.links mesh.frames post.turns.items
  pub ways : WaysAre mesh.nodes mesh.links post.ways.items
  pub lans : post.lans.items ≡ gateways_of mesh.lans
  pub frames : FramesAre sendings mesh.frames post.frames
  pub puts : PutsAre sendings mesh.puts post.puts.items
  pub bytes : post.bytes ≡ bytes_in mesh
  pub few : frames_in mesh ≤ frames_limit
  pub small : bytes_in mesh ≤ frame_bytes_limit
