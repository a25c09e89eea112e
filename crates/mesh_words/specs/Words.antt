-- The words and what they ask for, as the definitions have them.
use Rattle.std.specs.Prelude.{ℕ, ◌≤◌, List, map, String, string_bytes}
use Rattle.mesh_model.specs.Run.CommandLine.{Invocation, Source, FromInput, FromFile, Generated, least_nodes, most_nodes}
use Rattle.mesh_words.specs.declared.call.Call.{Call as ReadCall}
use Rattle.mesh_words.specs.declared.call.Source.{Source as ReadSource}
use Rattle.mesh_words.specs.declared.call.Source.TheVariants as read

-- words as bytes
abbrev pub texts : {A : Type 0} → List (String A) → List (List ℕ)
texts words = map string_bytes words

-- from where the lines come
abbrev pub source_of : ReadSource → Source
source_of read.Input = FromInput
source_of (read.File name) = FromFile name.now
source_of (read.Generated nodes) = Generated nodes

-- what words ask for
abbrev pub call_of : ReadCall → Invocation
call_of call = record { kind = call.kind; source = source_of call.source }

-- a mesh that is generated has 3 to 64 nodes
abbrev pub HasNodes : ReadSource → Type 0
HasNodes read.Input = Unit {0}
HasNodes (read.File name) = Unit {0}
HasNodes (read.Generated nodes) = (least_nodes ≤ nodes) × (nodes ≤ most_nodes)
