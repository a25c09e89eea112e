-- The rows of tables: requests, answers and containers that are passed on.
use Rattle.std.proofs.Common.{◌≡◌, ◌≢◌, ◌⊎◌, inl, inr, ◌≤◌, ◌<◌, ◌+◌, ◌-◌, ◌*◌, ◌/◌, ◌&&◌, ℕ, suc, max, Bool, true, false, cond, not, ◌==◌, nat_le, nat_lt, List, [], ◌∷◌, length, map, flat_map, take, drop, Option, Some, None, Err, refl, sym, ap, ap₂, subst, ◌∙◌, arith}
use Rattle.std.specs.List.{AllByRecursion}
use Rattle.std.proofs.lemmas.Bool.{leb-true}
use Rattle.std.proofs.lemmas.Bool.Decides.{nat_tests}
use Rattle.std.proofs.lemmas.List.{drop-map, length-take, take-map}
use Rattle.mesh_base.specs.declared.address.Mac.{Mac}
use Rattle.mesh_base.specs.declared.client.Entry.{Entry}
use Rattle.mesh_model.specs.declared.packet.Head.{Head}
use Rattle.mesh_model.specs.declared.packet.Head.TheVariants.{IvOgm, Bcast, Elp, Ogm2, Unicast, Frag, Unicast4, Icmp, Utvlv}
use Rattle.mesh_model.specs.declared.table_change.Change.{Change}
use Rattle.mesh_model.specs.declared.table_outcome.Difference.{Difference}
use Rattle.mesh_model.specs.declared.table_outcome.Request.{Request}
use Rattle.mesh_model.specs.Acts.Packing.{part_container, part_containers, reply_containers, request_containers, sent_over, sent_to, with_full}
use Rattle.mesh_model.specs.Acts.Rows.{Own, accepted_acts, message_acts, ogm_acts}
use Rattle.mesh_model.specs.Acts.TableRows.{held_within, is_within_limits, on_the_way, other_containers, own_answer, part_acts, passed_containers, request_acts, way_reply}
use Rattle.mesh_model.specs.Clients.Limits.{clients_limit, vlans_limit}
use Rattle.mesh_model.specs.Clients.Log.{Log}
use Rattle.mesh_model.specs.Knowledge.Known.{Knowledge, known_at}
use Rattle.mesh_model.specs.Knowledge.Steps.{Coming, before_announcement, request_out}
use Rattle.mesh_model.specs.Knowledge.Told.{Message, TableMessage, Asks, Answers, Neither, carried_told, message_in, stamp_told}
use Rattle.mesh_model.specs.Packets.Containers.{containers_of, containers_spelling}
use Rattle.mesh_model.specs.Packets.Contents.{first_table}
use Rattle.mesh_model.specs.Packets.Layout.{spelling}
use Rattle.mesh_model.specs.Packets.Numbers.{response_flag}
use Rattle.mesh_model.specs.Routes.Queries.{Queries}
use Rattle.mesh_model.specs.Tables.Answers.{Reply, ReplyPart, changes_reply, full_reply, held_reply, numbered_part, own_reply, parts_of_reply, reply_in, unless_asked_differs, whole_part}
use Rattle.mesh_model.specs.Tables.Changes.{addition}
use Rattle.mesh_model.specs.Tables.Differences.{first_difference}
use Rattle.mesh_model.specs.Tables.Known.{Known, known_by, nothing}
use Rattle.mesh_model.specs.Tables.Pieces.{piece, piece_at, piece_count, piece_size, places}
use Rattle.mesh_model.specs.Tables.Sums.{sums_of}
use Rattle.mesh_model.specs.Tables.Versions.{Stamp, Version}
use Rattle.mesh_laws.specs.Machine.Moves.{Move, answers_changes, answers_piece, differences_to, passes, piece_of, AreLastChanges}
use Rattle.mesh_laws.specs.Machine.World.{Piece, Saying, World, WasSaid, with_saying}
use Rattle.mesh_laws.proofs.PieceLemmas.{small_tables_are_one_piece, some_piece}
use Rattle.mesh_tie.specs.Sayings.{FrameSays, IsAnnounced, IsAnswered, saying_of}
use Rattle.mesh_tie.specs.Sources.{IsMessageOf, IsWhole, KeepsOriginators, MessageOf}
use Rattle.mesh_tie.specs.Tie.{FitsAnswer, FitsEntry}
use Rattle.mesh_laws.specs.HeldLaws.{stamp_of_commit}
use Rattle.mesh_tie.proofs.EntryLemmas.{each_addition, each_appended, each_flat, each_numbered, each_of_any, piece_of_table}
use Rattle.mesh_tie.proofs.Sayable.{IsLater, Sayable, Speaks, a_part, an_answer, answered_more, containers_say, frame_sayable, message_says, no_answer, one_or_two, over_row, says_one, silent}
use Rattle.mesh_tie.proofs.TableLemmas.{FitsChange, IsPartAgain, no_part_beside, part_again, reply_again, request_answers_none, request_small, told_part, told_room}

-- ---- what a node says of its own table
pub record Speaker (orig : Mac) (w : World) (me : Mac) (own : Own) : Type 0 where
  pub whole : IsWhole me
  pub fits : FitsAnswer own.last.table
  pub told_fit : (changes : List Change) → own.told ≡ Some changes → AllByRecursion FitsChange changes × (length changes ≤ 120)
  pub older : List Version
  pub commits : me ≡ orig → w.commits ≡ own.last ∷ older
  pub told_last : me ≡ orig → (changes : List Change) → own.told ≡ Some changes → AreLastChanges (own.last ∷ older) changes

-- what a node can say of a version, by itself or as it holds it
abbrev pub CanSay : Mac → Mac → World → Version → Type 0
CanSay orig me w version = (y : World) → IsLater w y → me ≡ orig → (place : ℕ) → place < piece_count version.table → Move y (with_saying (piece_of version place) y)

length_mapped : {X Y : Type 0} (f : X → Y) (xs : List X) → length (map f xs) ≡ length xs
length_mapped f [] = refl
length_mapped f (x ∷ xs) = ap suc (length_mapped f xs)

-- ---- pieces
-- the records of a whole table go in pieces as the table does
pub piece_mapped : (place : ℕ) (table : List Entry) → piece_at place (map addition table) ≡ piece place table
piece_mapped place table = ap (take piece_size) (drop-map addition (place * piece_size) table) ∙ take-map addition piece_size (drop (place * piece_size) table)

pub count_mapped : (table : List Entry) → piece_count (map addition table) ≡ piece_count table
unfolding piece_count
count_mapped table = ap (λ n. max 1 ((n + 1023) / 1024)) (length_mapped addition table)

pub few_pieces : (table : List Entry) → length table ≤ clients_limit → piece_count table ≤ 4
unfolding piece_count
few_pieces table few = omega (arith, few)

piece_short : (place : ℕ) (table : List Entry) → length (piece place table) ≤ 1024
unfolding piece_size
piece_short place table =
    let from = drop (place * 1024) table in
    omega (arith, length_mapped addition (take 1024 from), length-take 1024 from)

-- a table that doesn't go in parts is small, and one piece
is_short : (table : List Entry) → nat_lt piece_size (length (map addition table)) ≡ false → length table ≤ 1024
unfolding piece_size
is_short table is = let long = length_mapped addition table in grind (arith, nat_tests, is, long)

one_piece_said : (version : Version) → length version.table ≤ 1024 → piece_of version 0 ≡ saying_of (stamp_of_commit version) (carried_told true (map addition version.table))
one_piece_said version short =
    let one = small_tables_are_one_piece version.table short in
    ap₂ (λ n records. Piece version.byte (sums_of version.table) 0 n records) one.0 one.1

-- what a whole table says, once it was said
full_says : (orig : Mac) (log : Log) (said : List Saying) (root : ℕ) (dst src : Mac) (version : Version) → IsWhole dst → IsWhole src → FitsAnswer version.table → length version.table ≤ 1024
    → WasSaid said (piece_of version 0) → FrameSays orig log said root (spelling (Utvlv 50 dst src) (reply_containers (full_reply version)))
full_says orig log said root dst src version d s fits short was =
    let records = map addition version.table in
    let each = each_addition FitsEntry version.table fits.each in
    let few : length records ≤ 1024 = omega (arith, short, length_mapped addition version.table) in
    containers_say orig log said root 50 dst src (reply_containers (full_reply version)) d s (λ same. an_answer said true version records (reply_containers (full_reply version))
    (reply_again (with_full response_flag true) version records fits each few)
    (no_part_beside (with_full response_flag true) version records fits each few)
    (subst (WasSaid said) (one_piece_said version short) was))

-- what a part of one says, once it was said
part_says : (orig : Mac) (log : Log) (said : List Saying) (root : ℕ) (dst src : Mac) (version : Version) (place : ℕ) → IsWhole dst → IsWhole src → FitsAnswer version.table → place < piece_count version.table
    → WasSaid said (piece_of version place) → FrameSays orig log said root (spelling (Utvlv 50 dst src) (part_containers (numbered_part (full_reply version) place)))
part_says orig log said root dst src version place d s fits below was =
    subst (λ n. FrameSays orig log said root (spelling (Utvlv 50 dst src) (tail n (piece_at place (map addition version.table))))) (sym (count_mapped version.table))
    (subst (λ rs. FrameSays orig log said root (spelling (Utvlv 50 dst src) (tail (piece_count version.table) rs))) (sym (piece_mapped place version.table))
    (containers_say orig log said root 50 dst src (tail (piece_count version.table) (piece place version.table)) d s (λ same.
    a_part said version place (piece_count version.table) (piece place version.table) (tail (piece_count version.table) (piece place version.table)) again was)))
  where
    tail : ℕ → List Change → List ℕ
    tail count records = containers_spelling (part_container (told_part version place count records) ∷ [])

    again : IsPartAgain version place (piece_count version.table) (piece place version.table) (tail (piece_count version.table) (piece place version.table))
    again =
        let few = few_pieces version.table fits.few in
        part_again version place (piece_count version.table) (piece place version.table) fits (piece_of_table FitsEntry place version.table fits.each) (piece_short place version.table) (omega (arith, few, below)) (omega (arith, few))

-- an answer by another node says nothing
other_says : (orig : Mac) (log : Log) (said : List Saying) (root : ℕ) (dst src : Mac) (tail : List ℕ) → IsWhole dst → IsWhole src → src ≢ orig → FrameSays orig log said root (spelling (Utvlv 50 dst src) tail)
other_says orig log said root dst src tail d s other = containers_say orig log said root 50 dst src tail d s (λ same. absurd (other same))

-- containers that carry a piece can be said
piece_sayable : (orig : Mac) (log : Log) (root : ℕ) (w : World) (dst src to : Mac) (version : Version) (place : ℕ) (tail : List ℕ) → IsWhole dst → IsWhole src → CanSay orig src w version → place < piece_count version.table
    → ((said : List Saying) → WasSaid said (piece_of version place) → FrameSays orig log said root (spelling (Utvlv 50 dst src) tail)) → Sayable orig log root w (sent_to to None (Utvlv 50 dst src) tail)
piece_sayable orig log root w dst src to version place tail d s can below says y later = go (one_or_two src orig)
  where
    Said : List Saying → Type 0
    Said said = FrameSays orig log said root (spelling (Utvlv 50 dst src) tail)

    go : (src ≡ orig) ⊎ (src ≢ orig) → Speaks y Said
    go (inr other) = silent y Said (other_says orig log y.said root dst src tail d s other)
    go (inl same) = says_one y Said (piece_of version place) (can y later same place below) (λ was. says (piece_of version place ∷ y.said) was)

-- a whole table, in one piece or in parts
full_row : (orig : Mac) (log : Log) (root : ℕ) (w : World) (next : Option Mac) (dst src : Mac) (version : Version) → IsWhole dst → IsWhole src → FitsAnswer version.table → CanSay orig src w version
    → AllByRecursion (Sayable orig log root w) (flat_map (part_acts next src dst) (parts_of_reply (full_reply version)))
full_row orig log root w next dst src version d s fits can =
    each_flat (Sayable orig log root w) (part_acts next src dst) (parts_of_reply (full_reply version)) (go (nat_lt piece_size (length (map addition version.table))) refl)
  where
    One : ReplyPart → Type 0
    One part = AllByRecursion (Sayable orig log root w) (part_acts next src dst part)

    numbered : (place : ℕ) → place < 0 + piece_count (map addition version.table) → One (numbered_part (full_reply version) place)
    numbered place lt =
        let same = count_mapped version.table in
        let below : place < piece_count version.table = omega (arith, lt, same) in
        over_row orig log root w next (Utvlv 50 dst src) (part_containers (numbered_part (full_reply version) place)) (λ to.
        piece_sayable orig log root w dst src to version place (part_containers (numbered_part (full_reply version) place)) d s can below (λ said was.
        part_says orig log said root dst src version place d s fits below was))

    go : (b : Bool) → nat_lt piece_size (length (map addition version.table)) ≡ b
        → AllByRecursion One (cond b (map (numbered_part (full_reply version)) (places (piece_count (map addition version.table)))) (whole_part (full_reply version) ∷ []))
    go true is = each_numbered One (numbered_part (full_reply version)) 0 (piece_count (map addition version.table)) numbered
    go false is = (
      over_row orig log root w next (Utvlv 50 dst src) (reply_containers (full_reply version)) (λ to.
          piece_sayable orig log root w dst src to version 0 (reply_containers (full_reply version)) d s can (some_piece version.table) (λ said was.
          full_says orig log said root dst src version d s fits (is_short version.table is) was)),
      tt,
    )

-- ---- what the originator answers
own_full : (orig : Mac) (log : Log) (root : ℕ) (w : World) (next : Option Mac) (me : Mac) (own : Own) (asker : Mac) → Speaker orig w me own → IsWhole asker
    → AllByRecursion (Sayable orig log root w) (flat_map (part_acts next me asker) (parts_of_reply (full_reply own.last)))
own_full orig log root w next me own asker s whole =
    full_row orig log root w next asker me own.last whole s.whole s.fits (λ y later same place below. answers_piece y own.last s.older place (later.commits ∙ s.commits same) below)

own_changes : (orig : Mac) (log : Log) (root : ℕ) (w : World) (me : Mac) (own : Own) (asker to : Mac) (changes : List Change) → Speaker orig w me own → IsWhole asker → own.told ≡ Some changes
    → Sayable orig log root w (sent_to to None (Utvlv 50 asker me) (reply_containers (changes_reply own.last changes)))
own_changes orig log root w me own asker to changes s whole told y later = go (one_or_two me orig)
  where
    tail : List ℕ
    tail = reply_containers (changes_reply own.last changes)

    go : (me ≡ orig) ⊎ (me ≢ orig) → Speaks y (λ said. FrameSays orig log said root (spelling (Utvlv 50 asker me) tail))
    go (inr other) = silent y (λ said. FrameSays orig log said root (spelling (Utvlv 50 asker me) tail)) (other_says orig log y.said root asker me tail whole s.whole other)
    go (inl same) =
        let each = (s.told_fit changes told).0 in
        let at_most = (s.told_fit changes told).1 in
        let few : length changes ≤ 1024 = omega (arith, at_most) in
        says_one y (λ said. FrameSays orig log said root (spelling (Utvlv 50 asker me) tail)) (differences_to own.last changes)
        (answers_changes y own.last s.older changes (later.commits ∙ s.commits same) (s.told_last same changes told))
        (λ was. containers_say orig log (differences_to own.last changes ∷ y.said) root 50 asker me tail whole s.whole (λ again.
        an_answer (differences_to own.last changes ∷ y.said) false own.last changes tail
        (reply_again (with_full response_flag false) own.last changes s.fits each few)
        (no_part_beside (with_full response_flag false) own.last changes s.fits each few) was))

own_reply_row : (orig : Mac) (log : Log) (root : ℕ) (w : World) (next : Option Mac) (me : Mac) (own : Own) (asker : Mac) (full : Bool) (byte : ℕ) (told : Option (List Change)) → own.told ≡ told → Speaker orig w me own → IsWhole asker
    → AllByRecursion (Sayable orig log root w) (flat_map (part_acts next me asker) (parts_of_reply (own_reply full byte own.last told)))
own_reply_row orig log root w next me own asker full byte None is s whole = own_full orig log root w next me own asker s whole
own_reply_row orig log root w next me own asker full byte (Some changes) is s whole = go (not full && (byte == own.last.byte))
  where
    go : (b : Bool) → AllByRecursion (Sayable orig log root w) (flat_map (part_acts next me asker) (parts_of_reply (cond b (changes_reply own.last changes) (full_reply own.last))))
    go true = each_flat (Sayable orig log root w) (part_acts next me asker) (whole_part (changes_reply own.last changes) ∷ []) (
      over_row orig log root w next (Utvlv 50 asker me) (reply_containers (changes_reply own.last changes)) (λ to. own_changes orig log root w me own asker to changes s whole is),
      tt,
    )
    go false = own_full orig log root w next me own asker s whole

-- an answer to what a node is asked
pub own_row : (orig : Mac) (log : Log) (root : ℕ) (w : World) (q : Queries) (me : Mac) (known : Knowledge) (now : ℕ) (own : Own) (asker : Mac) (message : TableMessage) → Speaker orig w me own → IsWhole asker
    → AllByRecursion (Sayable orig log root w) (own_answer q me known now own.last own.told asker message)
unfolding own_answer
own_row orig log root w q me known now own asker (Asks full stamp) s whole = own_reply_row orig log root w (q.route known.routes now asker) me own asker full stamp.byte own.told refl s whole
own_row orig log root w q me known now own asker (Answers stamp carried) s whole = tt
own_row orig log root w q me known now own asker Neither s whole = tt

-- ---- what a node holds
record IsOfHeld (held : Option Version) (reply : Reply) : Type 0 where
  version : Version
  is : held ≡ Some version
  few : length version.table ≤ clients_limit
  reply_is : reply ≡ full_reply version

within_few : (held : Version) → is_within_limits held ≡ true → length held.table ≤ clients_limit
within_few held is = go (nat_le (length held.table) clients_limit) refl is
  where
    go : (b : Bool) → nat_le (length held.table) clients_limit ≡ b → (b && nat_le (length (sums_of held.table)) vlans_limit) ≡ true → length held.table ≤ clients_limit
    go true t both = leb-true (length held.table) clients_limit t
    go false t both = absurd cc

of_held : (asked : Stamp) (held : Option Version) (reply : Reply) → held_reply asked (held_within held) ≡ Some reply → IsOfHeld held reply
of_held asked None reply is = cc
of_held asked (Some held) reply is = go (is_within_limits held) refl is
  where
    found : length held.table ≤ clients_limit → (same : Bool) (d : Option Difference) → reply_in (cond same (unless_asked_differs d held asked) (Err (record { held = Some held.byte; asked = asked.byte; vid = None }))) ≡ Some reply → IsOfHeld (Some held) reply
    found few true None q = record { version = held; is = refl; few = few; reply_is = let same : full_reply held ≡ reply = cc in sym same }
    found few true (Some d) q = cc
    found few false d q = cc

    go : (b : Bool) → is_within_limits held ≡ b → held_reply asked (cond b (Some held) None) ≡ Some reply → IsOfHeld (Some held) reply
    go true t q = found (within_few held t) (held.byte == asked.byte) (first_difference (sums_of held.table) asked.sums) q
    go false t q = cc

way_held : (q : Queries) (known : Knowledge) (now : ℕ) (orig : Mac) (message : TableMessage) (reply : Reply) → way_reply q known now orig message ≡ Some reply → IsOfHeld (known_at q known now orig).held reply
way_held q known now orig (Asks full stamp) reply is = of_held stamp (known_at q known now orig).held reply is
way_held q known now orig (Answers stamp carried) reply is = cc
way_held q known now orig Neither reply is = cc

held_known : (live : Bool) (known : Known) (version : Version) → (cond live known nothing).held ≡ Some version → known.held ≡ Some version
held_known true known version is = is
held_known false known version is = cc

-- what the world's node holds, and that it can be told
pub record Holder (orig : Mac) (w : World) (m : ℕ) (known : Knowledge) : Type 0 where
  pub held : (w.nodes m).held ≡ (known_by known.tables orig).held
  pub fits : (version : Version) → (w.nodes m).held ≡ Some version → AllByRecursion FitsEntry version.table

way_row : (orig : Mac) (log : Log) (root : ℕ) (w : World) (m : ℕ) (q : Queries) (known : Knowledge) (now : ℕ) (next : Option Mac) (dst src : Mac) (reply : Reply) → Holder orig w m known → IsWhole dst → IsWhole src
    → IsOfHeld (known_at q known now dst).held reply → dst ≡ orig → AllByRecursion (Sayable orig log root w) (flat_map (part_acts next dst src) (parts_of_reply reply))
way_row orig log root w m q known now next dst src reply h d s of same =
    subst (λ (r : Reply). AllByRecursion (Sayable orig log root w) (flat_map (part_acts next dst src) (parts_of_reply r))) (sym of.reply_is)
    (full_row orig log root w next src dst of.version s d (record { few = of.few; each = h.fits of.version at }) (λ y later is place below.
    passes y m of.version place (ap (λ (nodes : ℕ → Rattle.mesh_laws.specs.Machine.World.Node). (nodes m).held) later.nodes ∙ at) below))
  where
    at : (w.nodes m).held ≡ Some of.version
    at = h.held ∙ held_known (q.live known.routes now orig) (known_by known.tables orig) of.version (ap (λ o. (known_at q known now o).held) (sym same) ∙ of.is)

-- an answer in the name of another originator says nothing of this one
other_parts : (orig : Mac) (log : Log) (root : ℕ) (w : World) (next : Option Mac) (dst src : Mac) (reply : Reply) → IsWhole dst → IsWhole src → dst ≢ orig → AllByRecursion (Sayable orig log root w) (flat_map (part_acts next dst src) (parts_of_reply reply))
other_parts orig log root w next dst src reply d s other =
    each_flat (Sayable orig log root w) (part_acts next dst src) (parts_of_reply reply)
    (each_of_any (λ part. AllByRecursion (Sayable orig log root w) (part_acts next dst src part)) (parts_of_reply reply) (λ part.
    over_row orig log root w next (Utvlv 50 src dst) (part_containers part) (λ to y later.
    silent y (λ said. FrameSays orig log said root (spelling (Utvlv 50 src dst) (part_containers part))) (other_says orig log y.said root src dst (part_containers part) s d other))))

-- containers that are passed on say what they said
passed_row : (orig : Mac) (log : Log) (root : ℕ) (w : World) (q : Queries) (known : Knowledge) (now ttl : ℕ) (dst src : Mac) (tail : List ℕ) → IsWhole dst → IsWhole src → (src ≡ orig → IsAnswered w.said tail)
    → AllByRecursion (Sayable orig log root w) (passed_containers q known now ttl dst src tail)
passed_row orig log root w q known now ttl dst src tail d s says = go (nat_le ttl 1)
  where
    go : (b : Bool) → AllByRecursion (Sayable orig log root w) (cond b [] (sent_over (q.route known.routes now dst) (Utvlv (ttl - 1) dst src) tail))
    go true = tt
    go false = over_row orig log root w (q.route known.routes now dst) (Utvlv (ttl - 1) dst src) tail
        (λ to. frame_sayable orig log root w (Some to) None (spelling (Utvlv (ttl - 1) dst src) tail)
        (λ said more. containers_say orig log said root (ttl - 1) dst src tail d s (λ same. answered_more w.said said tail more (says same))))

pub other_row : (orig : Mac) (log : Log) (root : ℕ) (w : World) (m : ℕ) (q : Queries) (known : Knowledge) (now ttl : ℕ) (dst src : Mac) (tail : List ℕ) → Holder orig w m known → IsWhole dst → IsWhole src → (src ≡ orig → IsAnswered w.said tail)
    → AllByRecursion (Sayable orig log root w) (other_containers q known now ttl dst src tail)
unfolding other_containers
other_row orig log root w m q known now ttl dst src tail h d s says =
    go (way_reply q known now dst (message_in (first_table (containers_of tail)))) (λ reply is. way_held q known now dst (message_in (first_table (containers_of tail))) reply is)
  where
    go : (o : Option Reply) → ((reply : Reply) → o ≡ Some reply → IsOfHeld (known_at q known now dst).held reply) → AllByRecursion (Sayable orig log root w) (on_the_way q known now ttl dst src tail o)
    go None of = passed_row orig log root w q known now ttl dst src tail d s says
    go (Some reply) of = by_name (one_or_two dst orig)
      where
        by_name : (dst ≡ orig) ⊎ (dst ≢ orig) → AllByRecursion (Sayable orig log root w) (flat_map (part_acts (q.route known.routes now src) dst src) (parts_of_reply reply))
        by_name (inl same) = way_row orig log root w m q known now (q.route known.routes now src) dst src reply h d s (of reply refl) same
        by_name (inr other) = other_parts orig log root w (q.route known.routes now src) dst src reply d s other

-- ---- originator messages
-- a message that a node takes
pub record IsTaken (orig : Mac) (log : Log) (said : List Saying) (root : ℕ) (head : Head) (message : Message) (tail : List ℕ) : Type 0 where
  pub message_is : IsMessageOf message.orig head
  pub found : first_table (containers_of tail) ≡ Some message.table
  pub small : length tail < 65536
  pub says : message.orig ≡ orig → IsAnnounced orig log said root tail

message_row : (orig : Mac) (log : Log) (root : ℕ) (w : World) (source : Mac) (o : Option Head) (tail : List ℕ) → ((head : Head) → o ≡ Some head → IsMessageOf source head) → length tail < 65536
    → (source ≡ orig → IsAnnounced orig log w.said root tail) → AllByRecursion (Sayable orig log root w) (message_acts o tail)
unfolding message_acts
message_row orig log root w source None tail is small says = tt
message_row orig log root w source (Some head) tail is small says = (
  frame_sayable orig log root w None None (spelling head tail) (λ said more. message_says orig log said root source head tail (is head refl) small
      (λ same. let a = says same in record { table = a.table; found = a.found; past = a.past; was_said = more _ a.was_said })),
  tt,
)

request_row : (orig : Mac) (log : Log) (root : ℕ) (w : World) (me : Mac) (next : Option Mac) (message : Message) (tail : List ℕ) (o : Option Request) → IsWhole me → IsWhole message.orig → length tail < 65536
    → first_table (containers_of tail) ≡ Some message.table → AllByRecursion (Sayable orig log root w) (request_acts me next message o)
request_row orig log root w me next message tail None mine whole small found = tt
request_row orig log root w me next message tail (Some request) mine whole small found =
    let room = told_room tail message.table small found in
    over_row orig log root w next (Utvlv 50 message.orig me) (request_containers request (stamp_told message.table))
    (λ to. frame_sayable orig log root w (Some to) None (spelling (Utvlv 50 message.orig me) (request_containers request (stamp_told message.table)))
    (λ said more. containers_say orig log said root 50 message.orig me (request_containers request (stamp_told message.table)) whole mine
    (λ same. no_answer said (request_containers request (stamp_told message.table)) (request_small request (stamp_told message.table) room) (request_answers_none request (stamp_told message.table) room))))

message_one : (a b : Mac) → MessageOf a ≡ MessageOf b → a ≡ b
message_one a b is = cc

pub source_whole : (source : Mac) (head : Head) → IsMessageOf source head → IsWhole source
source_whole source (IvOgm ttl flags seq o prev tq) is = subst IsWhole (message_one o source is.word) is.addresses.0
source_whole source (Bcast ttl seq o) is = absurd (let e = is.word in cc)
source_whole source (Elp o seq interval) is = absurd (let e = is.word in cc)
source_whole source (Ogm2 ttl flags seq o throughput) is = subst IsWhole (message_one o source is.word) is.addresses
source_whole source (Unicast ttl ttvn dst) is = absurd (let e = is.word in cc)
source_whole source (Frag ttl number priority dst o seq total) is = absurd (let e = is.word in cc)
source_whole source (Unicast4 ttl ttvn dst src subtype) is = absurd (let e = is.word in cc)
source_whole source (Icmp ttl msg dst o uid seq) is = absurd (let e = is.word in cc)
source_whole source (Utvlv ttl dst src) is = absurd (let e = is.word in cc)

-- a message is sent on, and may lead to a request
pub ogm_row : (orig : Mac) (log : Log) (root : ℕ) (w : World) (q : Queries) (me : Mac) (came : Coming) (head : Head) (message : Message) (tail : List ℕ) (known : Knowledge)
    → KeepsOriginators me q → IsWhole me → IsWhole came.from → IsTaken orig log w.said root head message tail → AllByRecursion (Sayable orig log root w) (ogm_acts q me came head message tail known)
unfolding ogm_acts
ogm_row orig log root w q me came head message tail known keeps mine from is =
    each_appended (Sayable orig log root w) (message_acts (q.hear known.routes came.now came.from came.throughput head).forward tail)
    (cond (q.hear known.routes came.now came.from came.throughput head).accepted (accepted_acts q me came head message known) [])
    (message_row orig log root w message.orig (q.hear known.routes came.now came.from came.throughput head).forward tail
    (λ sent forward. keeps.onward known.routes came.now came.from came.throughput head sent message.orig from is.message_is forward) is.small is.says)
    (go (q.hear known.routes came.now came.from came.throughput head).accepted)
  where
    go : (b : Bool) → AllByRecursion (Sayable orig log root w) (cond b (accepted_acts q me came head message known) [])
    go true = request_row orig log root w me (q.route (before_announcement q came head message.orig known).routes came.now message.orig) message tail
        (request_out q (before_announcement q came head message.orig known) came.now message) mine (source_whole message.orig head is.message_is) is.small is.found
    go false = tt
