-- A table of two clients that comes to a node in parts, and answers of many records that go in
-- parts. The main words are `outcome` and `part_sizes`.
use Rattle.std.specs.Prelude.{ℕ, Bool, List, [], ◌∷◌, length, map, replicate, Option}
use Rattle.mesh_model.specs.declared.table_change.Change.{Change}
use Rattle.mesh_model.specs.declared.table_outcome.Taken.{Taken}
use Rattle.mesh_model.specs.Tables.Answers.{PartPlace, Reply, parts_of_reply}
use Rattle.mesh_model.specs.Tables.Changes.{addition}
use Rattle.mesh_model.specs.Tables.Judging.{Carried, InPart, answer_row}
use Rattle.mesh_model.specs.Tables.Known.{Known, TableCall, TableCalls, Announced, Answered, known_by, stamp_of}
use Rattle.mesh_model.specs.Tables.Versions.{Stamp}
use Rattle.mesh_rows.specs.CallRows.{node}
use Rattle.mesh_rows.specs.TableRows.{first, second}

-- untagged clients with this checksum, under a byte
abbrev pub stamp : ℕ → ℕ → Stamp
stamp byte sum = record { byte = byte; sums = record { vid = record { 0 = 0 }; sum = sum } ∷ [] }

-- the table of both clients, under the byte 3
abbrev pub both : Stamp
both = stamp 3 324072436

-- an announcement of A, with no changes
abbrev pub told : Stamp → TableCall
told stamp = Announced (node 10) 1 stamp []

-- no clients are announced under the byte 0, then both under the byte 3
abbrev pub told_both : TableCalls
told_both = told both ∷ told (record { byte = 0; sums = [] }) ∷ []

-- an answer for A
abbrev pub came : Stamp → Carried → TableCall
came stamp carried = Answered (node 10) stamp carried

-- a part of the table of both clients: its number, how many there are, and its records
abbrev pub part : ℕ → ℕ → List Change → TableCall
part number count records = came both (InPart number count records)

-- the first client alone
abbrev pub first_alone : List Change
first_alone = addition first ∷ []

-- the second client alone
abbrev pub second_alone : List Change
second_alone = addition second ∷ []

-- what is known of A
abbrev pub known : TableCalls → Known
known calls = known_by calls (node 10)

-- the outcome of an answer for A behind calls
abbrev pub outcome : TableCalls → Stamp → Carried → Taken
outcome calls stamp carried = (answer_row (stamp_of (known calls)) (known calls).held
    (known calls).gathered stamp carried).outcome

-- the outcome of a part of the table of both clients behind calls
abbrev pub part_outcome : TableCalls → ℕ → ℕ → List Change → Taken
part_outcome calls number count records = outcome calls both (InPart number count records)

-- ---- answers of many records
-- an answer with so many records
abbrev pub reply_with : Bool → ℕ → Reply
reply_with full count =
    record { full = full; stamp = both; records = replicate count (addition first) }

-- the parts of such an answer: the place and the number of records of each
abbrev pub part_sizes : Bool → ℕ → List (Option PartPlace × ℕ)
part_sizes full count =
    map (λ part. (part.place, length part.reply.records)) (parts_of_reply (reply_with full count))
