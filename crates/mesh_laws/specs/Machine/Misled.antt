-- A worked world in which two commits are an alias. The originator commits one client, and
-- announces and answers it; node 0 is told and takes it. Then the originator commits another client
-- in its place, under the same byte: the addresses were chosen so that their checksums are equal.
-- Then it adds a third client, and announces this with the changes. Node 0 takes the changes: it
-- holds the told byte and sums, and yet a table that was never committed, and passes it on.
-- The main words are `misled_world` and `IsMisled`.
use Rattle.std.specs.Prelude.{◌≡◌, ℕ, List, [], ◌∷◌, Option, Some, None}
use Rattle.mesh_base.specs.declared.client.Entry.{Entry}
use Rattle.mesh_model.specs.Tables.Changes.{addition}
use Rattle.mesh_model.specs.Tables.Sums.{sums_of}
use Rattle.mesh_model.specs.Tables.Versions.{Version}
use Rattle.mesh_laws.specs.Machine.World.{Told, World, start, WasSaid, IsCommit, with_commit, with_saying, with_node}
use Rattle.mesh_laws.specs.Machine.Moves.{Reaches, announcement_of, piece_of, agreed_node}
use Rattle.mesh_laws.specs.Machine.Agreement.{HasNoAlias, Agrees, IsAgreed}

-- an untagged client without flags
abbrev pub client : List ℕ → Entry
client address = record {
  key = record { mac = record { 0 = address }; vid = record { 0 = 0 } };
  flags = 0;
}

-- 02:00:00:00:00:01
abbrev pub one_client : Entry
one_client = client (2 ∷ 0 ∷ 0 ∷ 0 ∷ 0 ∷ 1 ∷ [])

-- 02:f1:76:ec:05:00, which has the checksum of the one before
abbrev pub other_client : Entry
other_client = client (2 ∷ 0xf1 ∷ 0x76 ∷ 0xec ∷ 5 ∷ 0 ∷ [])

-- 02:ff:00:00:00:03
abbrev pub third_client : Entry
third_client = client (2 ∷ 0xff ∷ 0 ∷ 0 ∷ 0 ∷ 3 ∷ [])

-- commit 1
abbrev pub one_commit : Version
one_commit = record { byte = 1; table = one_client ∷ [] }

-- commit 2, an alias of commit 1
abbrev pub other_commit : Version
other_commit = record { byte = 1; table = other_client ∷ [] }

-- commit 3
abbrev pub third_commit : Version
third_commit = record { byte = 2; table = other_client ∷ third_client ∷ [] }

-- what node 0 takes for commit 3
abbrev pub misled_version : Version
misled_version = record { byte = 2; table = one_client ∷ third_client ∷ [] }

-- what the announcement of a commit tells
abbrev pub told_of : ℕ → Version → Told
told_of number commit =
    record { number = number; byte = commit.byte; sums = sums_of commit.table }

-- a node that was told of a commit and holds this
abbrev pub told_and_holds : ℕ → Version → Option Version → World → World
told_and_holds number commit held w =
    with_node 0 (record { told = Some (told_of number commit); held = held }) w

-- commit 1 is announced and answered in full
abbrev pub one_said : World
one_said = with_saying (piece_of one_commit 0)
    (with_saying (announcement_of 1 one_commit []) (with_commit one_commit start))

-- node 0 is told of commit 1 and takes it
abbrev pub one_held : World
one_held = with_node 0 (agreed_node (told_of 1 one_commit) one_commit.table)
    (told_and_holds 1 one_commit None one_said)

-- commits 2 and 3 follow, and commit 3 is announced with its changes
abbrev pub third_said : World
third_said = with_saying (announcement_of 3 third_commit (addition third_client ∷ []))
    (with_commit third_commit (with_commit other_commit one_held))

-- node 0 is told of commit 3, takes its changes and passes on what it holds
abbrev pub misled_world : World
misled_world = with_saying (piece_of misled_version 0)
    (with_node 0 (agreed_node (told_of 3 third_commit) misled_version.table)
    (told_and_holds 3 third_commit (Some one_commit) third_said))

-- moves reach the world, and none of the laws holds of it
pub record IsMisled : Type 0 where
  pub reached : Reaches start misled_world
  pub has_alias : HasNoAlias misled_world.commits → ⊥
  pub told : (misled_world.nodes 0).told ≡ Some (told_of 3 third_commit)
  pub held : (misled_world.nodes 0).held ≡ Some misled_version
  pub agreed : IsAgreed (told_of 3 third_commit) misled_version
  pub not_the_told : misled_version.table ≡ third_commit.table → ⊥
  pub not_a_commit : IsCommit misled_world.commits misled_version → ⊥
  pub said : WasSaid misled_world.said (piece_of misled_version 0)
  pub disagrees : Agrees misled_world.commits (piece_of misled_version 0) → ⊥
