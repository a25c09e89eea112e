-- What a node answers a request with: on the way the table that is held, where it has the asked byte
-- and sums; and that its answers fit a packet.
use Rattle.std.proofs.Common.{◌≡◌, ◌≤◌, ℕ, suc, Bool, true, false, List, [], ◌∷◌, length, refl, sym, ap, subst, ◌∙◌, arith, Option, Some, None, Result, Ok, Err, Ordering, Less, Equal, Greater}
use Rattle.std.specs.Prelude.{◌==◌, ◌&&◌, not, nat_le, map, if◌then◌else◌}
use Rattle.std.specs.Ordering.{match_ordering, nat_cmp}
use Rattle.std.proofs.lemmas.Bool.{leb-true, true≢false}
use Rattle.std.proofs.lemmas.List.{length-map}
use Rattle.mesh_base.specs.declared.address.Mac.{Mac}
use Rattle.mesh_base.specs.declared.client.Entry.{Entry}
use Rattle.mesh_base.specs.declared.client.Vid.{Vid}
use Rattle.mesh_model.specs.declared.table_change.Change.{Change}
use Rattle.mesh_model.specs.declared.table_outcome.Difference.{Difference}
use Rattle.mesh_model.specs.Acts.Rows.{Own}
use Rattle.mesh_model.specs.Acts.TableRows.{held_within, is_within_limits, on_the_way, other_containers, own_answer, way_reply}
use Rattle.mesh_model.specs.Clients.Limits.{clients_limit}
use Rattle.mesh_model.specs.Commits.Announcements.{carried_changes, if_few, told_changes}
use Rattle.mesh_model.specs.Commits.History.{History, is_first, last_changes}
use Rattle.mesh_model.specs.Commits.Versions.{last_commit}
use Rattle.mesh_model.specs.Knowledge.Known.{Knowledge, known_at}
use Rattle.mesh_model.specs.Knowledge.Told.{Asks, message_in}
use Rattle.mesh_model.specs.Packets.Bodies.{VlanSum}
use Rattle.mesh_model.specs.Packets.Containers.{containers_of}
use Rattle.mesh_model.specs.Packets.Contents.{first_table}
use Rattle.mesh_model.specs.Routes.Queries.{Queries}
use Rattle.mesh_model.specs.Tables.Answers.{NotHeld, Reply, changes_reply, full_reply, held_reply, other_answer, own_reply, reply_in, unless_asked_differs}
use Rattle.mesh_model.specs.Tables.Changes.{addition}
use Rattle.mesh_model.specs.Tables.Differences.{first_difference}
use Rattle.mesh_model.specs.Tables.Known.{known_by, nothing}
use Rattle.mesh_model.specs.Tables.Sums.{checksums, insert_vlan, sums_of, vlans_of}
use Rattle.mesh_model.specs.Tables.Versions.{Stamp, Version}
use Rattle.node_ground.specs.Sending.{FitsParts}
use Rattle.node_tables.specs.Replies.{reply_acts}

-- the held version of a live originator, by whether it is within the limits
pub held_is : (q : Queries) (known : Knowledge) (now : ℕ) (orig : Mac) (version : Version) (within : Bool) → q.live known.routes now orig ≡ true
    → Some version ≡ (known_by known.tables orig).held → is_within_limits version ≡ within
    → (if within then Some version else None) ≡ held_within (known_at q known now orig).held
held_is q known now orig version within live held is =
    let nothing_else : Bool → Option Version = λ b. held_within (if b then known_by known.tables orig else nothing).held in
    sym (ap nothing_else live ∙ ap held_within (sym held) ∙ ap (λ b. if b then Some version else None) is)

-- a version that is held within the limits is what is known to be held
within_only : (o : Option Version) (version : Version) → held_within o ≡ Some version → (o ≡ Some version) × (is_within_limits version ≡ true)
within_only None version is = absurd cc
within_only (Some held) version is = by_limits (is_within_limits held) refl is
  where
    some_one : (a b : Version) → Some a ≡ Some b → a ≡ b
    some_one a b is = cc

    by_limits : (b : Bool) → is_within_limits held ≡ b → (if b then Some held else None) ≡ Some version → (Some held ≡ Some version) × (is_within_limits version ≡ true)
    by_limits true within is = (is, subst (λ (v : Version). is_within_limits v ≡ true) (some_one held version is) within)
    by_limits false within is = absurd cc

pub held_known : (q : Queries) (known : Knowledge) (now : ℕ) (orig : Mac) (version : Version) → Some version ≡ held_within (known_at q known now orig).held
    → ((known_by known.tables orig).held ≡ Some version) × (is_within_limits version ≡ true)
held_known q known now orig version is = by_life (q.live known.routes now orig) (sym is)
  where
    by_life : (b : Bool) → held_within (if b then known_by known.tables orig else nothing).held ≡ Some version
        → ((known_by known.tables orig).held ≡ Some version) × (is_within_limits version ≡ true)
    by_life true is = within_only (known_by known.tables orig).held version is
    by_life false is = absurd cc

-- an answer in an originator's stead has the whole table that is held
pub reply_of : (version : Version) (asked : Stamp) (reply : Reply) → other_answer (Some version) asked ≡ Ok reply → full_reply version ≡ reply
reply_of version asked reply is = by_byte (version.byte == asked.byte) is
  where
    wanted : Reply → Result Reply NotHeld
    wanted reply = Ok reply

    by_sums : (o : Option Difference) → unless_asked_differs o version asked ≡ Ok reply → full_reply version ≡ reply
    by_sums None is = ok_one (full_reply version) reply is
      where
        ok_one : (a b : Reply) → wanted a ≡ wanted b → a ≡ b
        ok_one a b is = cc
    by_sums (Some difference) is = absurd cc

    by_byte : (b : Bool) → (if b then unless_asked_differs (first_difference (sums_of version.table) asked.sums) version asked
        else Err (record { held = Some version.byte; asked = asked.byte; vid = None })) ≡ Ok reply → full_reply version ≡ reply
    by_byte true is = by_sums (first_difference (sums_of version.table) asked.sums) is
    by_byte false is = absurd cc

-- the answer on the way is that by what is held within the limits
pub way_is : (told asked : Stamp) (held : Option Version) (version : Version) (answer : Result Reply NotHeld) → Some version ≡ held → told ≡ asked
    → other_answer (Some version) told ≡ answer → held_reply asked held ≡ reply_in answer
way_is told asked held version answer is same answers =
    ap (held_reply asked) (sym is) ∙ ap (λ (s : Stamp). reply_in (other_answer (Some version) s)) (sym same) ∙ ap reply_in answers

-- ---- an answer fits a packet

-- an entry makes at most one VLAN more
placed : (order : Ordering) (vid first : Vid) (rest more : List Vid) → length more ≤ suc (length rest)
    → length (match_ordering order (vid ∷ first ∷ rest) (first ∷ rest) (first ∷ more)) ≤ suc (suc (length rest))
placed Less vid first rest more few = omega arith
placed Equal vid first rest more few = omega arith
placed Greater vid first rest more few = omega (arith, few)

inserted_few : (vid : Vid) (vids : List Vid) → length (insert_vlan vid vids) ≤ suc (length vids)
inserted_few vid [] = omega arith
inserted_few vid (first ∷ rest) = placed (nat_cmp vid.0 first.0) vid first rest (insert_vlan vid rest) (inserted_few vid rest)

vlans_few : (table : List Entry) → length (vlans_of table) ≤ length table
vlans_few [] = omega arith
vlans_few (entry ∷ table) =
    let rest = vlans_few table in
    let one = inserted_few entry.key.vid (vlans_of table) in
    omega (arith, rest, one)

-- there are no more checksums than entries
pub entry_sums_few : (table : List Entry) → length (sums_of table) ≤ length table
entry_sums_few table =
    let named : Vid → VlanSum = λ vid. record { vid = vid; sum = checksums table vid } in
    let long : length (map named (vlans_of table)) ≡ length (vlans_of table) = length-map (vlans_of table) named in
    let few = vlans_few table in
    omega (arith, long, few)

pub full_fits : (version : Version) → length version.table ≤ clients_limit → FitsParts (full_reply version)
full_fits version few =
    let sums = entry_sums_few version.table in
    let long : length (map addition version.table) ≡ length version.table = length-map version.table addition in
    record { sums = omega (arith, few, sums); few = omega (arith, few, long); changes = λ part. absurd (true≢false part) }

few_only : (xs changes : List Change) → if_few xs ≡ Some changes → length changes ≤ carried_changes
few_only xs changes is = by_count (nat_le (length xs) carried_changes) refl is
  where
    some_one : Some xs ≡ Some changes → xs ≡ changes
    some_one is = cc

    by_count : (b : Bool) → nat_le (length xs) carried_changes ≡ b → (if b then Some xs else None) ≡ Some changes → length changes ≤ carried_changes
    by_count true few is = subst (λ (ys : List Change). length ys ≤ carried_changes) (some_one is) (leb-true (length xs) carried_changes few)
    by_count false few is = absurd cc

told_few : (history : History) (changes : List Change) → told_changes history ≡ Some changes → length changes ≤ carried_changes
told_few history changes is = by_last (is_first history) is
  where
    by_last : (first : Bool) → (if first then None else if_few (last_changes history)) ≡ Some changes → length changes ≤ carried_changes
    by_last true is = absurd cc
    by_last false is = few_only (last_changes history) changes is

pub own_fits : (full : Bool) (byte : ℕ) (history : History) → length (last_commit history.commits).table ≤ clients_limit
    → FitsParts (own_reply full byte (last_commit history.commits) (told_changes history))
own_fits full byte history few = by_told (told_changes history) refl
  where
    last : Version
    last = last_commit history.commits

    by_wish : (b : Bool) (changes : List Change) → length changes ≤ carried_changes → FitsParts (if b then changes_reply last changes else full_reply last)
    by_wish true changes short =
        let sums = entry_sums_few last.table in
        record { sums = omega (arith, few, sums); few = omega (arith, short); changes = λ part. omega (arith, short) }
    by_wish false changes short = full_fits last few

    by_told : (told : Option (List Change)) → told_changes history ≡ told → FitsParts (own_reply full byte last told)
    by_told None is = full_fits last few
    by_told (Some changes) is = by_wish (not full && (byte == last.byte)) changes (told_few history changes is)

-- ---- what is put for a request for another's table that is answered
pub way_acts : (q : Queries) (known : Knowledge) (now ttl : ℕ) (dst src : Mac) (tail : List ℕ) (next : Option Mac) (reply : Reply) → next ≡ q.route known.routes now src
    → Some reply ≡ way_reply q known now dst (message_in (first_table (containers_of tail))) → reply_acts next dst src reply ≡ other_containers q known now ttl dst src tail
unfolding other_containers
way_acts q known now ttl dst src tail next reply way is = ap (λ n. reply_acts n dst src reply) way ∙ ap (on_the_way q known now ttl dst src tail) is

-- ---- what is put for a request for the own table

pub own_acts : (q : Queries) (me : Mac) (known : Knowledge) (now : ℕ) (own : Own) (history : History) (asker : Mac) (full whole : Bool) (stamp : Stamp) (byte : ℕ)
    (next : Option Mac) (reply : Reply) → next ≡ q.route known.routes now asker
    → reply ≡ own_reply whole byte (last_commit history.commits) (told_changes history) → whole ≡ full → byte ≡ stamp.byte → own.last ≡ last_commit history.commits
    → own.told ≡ told_changes history → reply_acts next me asker reply ≡ own_answer q me known now own.last own.told asker (Asks full stamp)
unfolding own_answer
own_acts q me known now own history asker full whole stamp byte next reply way is asks under last told =
    let reply_is : reply ≡ own_reply full stamp.byte own.last own.told =
    is ∙ ap (λ f. own_reply f byte (last_commit history.commits) (told_changes history)) asks ∙ ap (λ b. own_reply full b (last_commit history.commits) (told_changes history)) under
    ∙ ap (λ v. own_reply full stamp.byte v (told_changes history)) (sym last) ∙ ap (own_reply full stamp.byte own.last) (sym told) in
    ap (λ n. reply_acts n me asker reply) way ∙ ap (reply_acts (q.route known.routes now asker) me asker) reply_is
