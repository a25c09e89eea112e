-- What is put of a table is read again: an announcement, an answer; a request and an advertisement
-- are no answers.
use Rattle.std.proofs.Common.{◌≡◌, inl, inr, ◌≤◌, ◌<◌, ◌+◌, ◌*◌, ◌/◌, ◌%◌, ℕ, suc, Bool, true, false, cond, List, [], ◌∷◌, ◌++◌, ◌==◌, filter, filter_map, length, map, flat_map, refl, sym, ap, ap₂, ◌∙◌, append_assoc, arith, Option, Some, None, nat_lt, length-append}
use Rattle.std.specs.List.{All, AllByRecursion, cons_option}
use Rattle.std.proofs.lemmas.List.Elements.{All-append, All-from_recursion, All-cons, All-nil}
use Rattle.std.proofs.lemmas.Grind.{flat_map-append}
use Rattle.mesh_base.specs.declared.client.Entry.{Entry}
use Rattle.mesh_base.specs.declared.client.Key.{Key}
use Rattle.mesh_model.specs.declared.table_change.Change.{Change}
use Rattle.mesh_model.specs.declared.table_outcome.Request.{Request}
use Rattle.mesh_model.specs.declared.table_outcome.Request.TheVariants.{Full, Changes}
use Rattle.mesh_model.specs.Acts.OwnContainers.{arp_table_container, arp_table_part, gateway_container, gateway_part, multicast_container, multicast_part, own_containers}
use Rattle.mesh_model.specs.Acts.Packing.{part_container, request_containers, request_flags, roaming_container, table_container, table_told, with_full}
use Rattle.mesh_model.specs.Clients.Settings.{GatewayPart, NoPart, Serves, Chooses, Settings}
use Rattle.mesh_model.specs.Commits.Announcements.{record_of_change}
use Rattle.mesh_model.specs.Knowledge.Told.{Answers, Neither, carried_told, change_told, message_changes, message_in, part_told, stamp_told, table_message}
use Rattle.mesh_model.specs.Packets.Bodies.{TtChange, TtData, TtPart, VlanSum, change_of, entry_of_change, tt_data, vlans_size}
use Rattle.mesh_model.specs.Packets.BodySpellings.{change_spelling, tt_part_spelling, tt_spelling, vlan_spelling}
use Rattle.mesh_model.specs.Packets.Containers.{Container, FitsLength, container_spelling, containers_of, containers_spelling}
use Rattle.mesh_model.specs.Packets.Contents.{first_of, first_part, first_table, is_of, table_of_body}
use Rattle.mesh_model.specs.Packets.Numbers.{ogm_diff_flag, response_flag, tt_tvlv, tvlv_version}
use Rattle.mesh_model.specs.Tables.Judging.{Carried, InPart}
use Rattle.mesh_model.specs.Tables.Sums.{sums_of}
use Rattle.mesh_model.specs.Tables.Versions.{Stamp, Version}
use Rattle.mesh_tvlv.specs.Laws.{FitsKey, FitsTable, FitsVlan}
use Rattle.mesh_tvlv.proofs.SpellingLemmas.{read_back}
use Rattle.mesh_tvlv.proofs.TableLemmas.{part_back, record_back, table_back}
use Rattle.mesh_tie.specs.Sayings.{HoldsAnswer}
use Rattle.mesh_tie.specs.Tie.{FitsAnswer, FitsEntry}
use Rattle.mesh_laws.specs.HeldLaws.{stamp_of_commit}
use Rattle.mesh_laws.proofs.RoomLemmas.{sums_few, table_fits}
use Rattle.mesh_tie.proofs.SumLemmas.{sums_few_of, sums_fit, sums_told_same}

-- ---- records
-- a change that a record can tell
abbrev pub FitsChange : Change → Type 0
FitsChange change = FitsEntry change.entry

change_same : (change : Change) → FitsChange change → change_told (record_of_change change) ≡ change
change_same change fits =
    let back = record_back change.entry change.del in
    let entry : entry_of_change (change_of change.entry change.del) ≡ change.entry = back.0 ∙ ap (λ n. record { key = change.entry.key; flags = n }) fits.flags in
    ap₂ (λ (e : Entry) (d : Bool). record { entry = e; del = d }) entry back.1

changes_same : (changes : List Change) → AllByRecursion FitsChange changes → map change_told (map record_of_change changes) ≡ changes
changes_same [] fits = refl
changes_same (change ∷ changes) fits = ap₂ (λ c cs. c ∷ cs) (change_same change fits.0) (changes_same changes fits.1)

keys_fit : (changes : List Change) → AllByRecursion FitsChange changes → AllByRecursion (λ (c : TtChange). FitsKey c.key) (map record_of_change changes)
keys_fit [] fits = tt
keys_fit (change ∷ changes) fits = (fits.0.key, keys_fit changes fits.1)

-- ---- lengths
vlans_long : (sums : List VlanSum) → length (flat_map vlan_spelling sums) ≡ 8 * length sums
vlans_long [] = omega arith
vlans_long (s ∷ sums) = let rest = vlans_long sums in omega (arith, length-append (vlan_spelling s) (flat_map vlan_spelling sums), rest)

change_long : (change : TtChange) → FitsKey change.key → length (change_spelling change) ≡ 12
change_long change fits = let six = fits.address in omega (arith, length-append change.key.mac.0 (change.key.vid.0 / 256 % 256 ∷ change.key.vid.0 % 256 ∷ []), six)

changes_long : (changes : List TtChange) → AllByRecursion (λ (c : TtChange). FitsKey c.key) changes → length (flat_map change_spelling changes) ≡ 12 * length changes
changes_long [] fits = omega arith
changes_long (c ∷ changes) fits =
    let rest = changes_long changes fits.1 in
    let one = change_long c fits.0 in
    omega (arith, length-append (change_spelling c) (flat_map change_spelling changes), rest, one)

body_long : (table : TtData) → AllByRecursion (λ (c : TtChange). FitsKey c.key) table.changes → length (tt_spelling table) ≡ 4 + 8 * length table.vlans + 12 * length table.changes
body_long table fits =
    let vlans = vlans_long table.vlans in
    let changes = changes_long table.changes fits in
    omega (arith, vlans, changes, length-append (flat_map vlan_spelling table.vlans) (flat_map change_spelling table.changes))

part_body_long : (part : TtPart) → AllByRecursion (λ (c : TtChange). FitsKey c.key) part.table.changes → length (tt_part_spelling part) ≡ 8 + 8 * length part.table.vlans + 12 * length part.table.changes
part_body_long part fits =
    let vlans = vlans_long part.table.vlans in
    let changes = changes_long part.table.changes fits in
    omega (arith, vlans, changes, length-append (flat_map vlan_spelling part.table.vlans) (flat_map change_spelling part.table.changes))

-- ---- tables
-- what is told of a version with these records is told again
pub record IsToldAgain (flags : ℕ) (version : Version) (records : List Change) (tail : List ℕ) : Type 0 where
  pub small : length tail < 65536
  pub found : first_table (containers_of tail) ≡ Some (table_told flags (stamp_of_commit version) records)
  pub stamp : stamp_told (table_told flags (stamp_of_commit version) records) ≡ stamp_of_commit version
  pub changes : message_changes (table_told flags (stamp_of_commit version) records) ≡ records

length_mapped : {X Y : Type 0} (f : X → Y) (xs : List X) → length (map f xs) ≡ length xs
length_mapped f [] = refl
length_mapped f (x ∷ xs) = ap suc (length_mapped f xs)

fits_table : (flags : ℕ) (version : Version) (records : List Change) → FitsAnswer version.table → AllByRecursion FitsChange records → FitsTable (table_told flags (stamp_of_commit version) records)
fits_table flags version records table changes = record {
  vlans = let few = table.few in omega (arith, few, sums_few_of version.table);
  each_vlan = All-from_recursion FitsVlan (sums_of version.table) (sums_fit version.table table.each);
  each_change = All-from_recursion (λ (c : TtChange). FitsKey c.key) (map record_of_change records) (keys_fit records changes);
}

body_small : (flags : ℕ) (version : Version) (records : List Change) → FitsAnswer version.table → AllByRecursion FitsChange records → length records ≤ 1024
    → length (tt_spelling (table_told flags (stamp_of_commit version) records)) ≤ 45060
body_small flags version records table changes few =
    let long = body_long (table_told flags (stamp_of_commit version) records) (keys_fit records changes) in
    let sums = sums_few_of version.table in
    let some = table.few in
    omega (arith, long, sums, some, few, length_mapped record_of_change records)

one_long : (c : Container) → length (containers_spelling (c ∷ [])) ≡ 4 + length c.body
one_long c = omega (arith, length-append (container_spelling c) [])

pub reply_again : (flags : ℕ) (version : Version) (records : List Change) → FitsAnswer version.table → AllByRecursion FitsChange records → length records ≤ 1024
    → IsToldAgain flags version records (containers_spelling (table_container (table_told flags (stamp_of_commit version) records) ∷ []))
reply_again flags version records table changes few =
    let told = table_told flags (stamp_of_commit version) records in
    let small = body_small flags version records table changes few in
    record {
      small = omega (arith, one_long (table_container told), small);
      found = ap first_table (read_back (table_container told ∷ []) (All-cons FitsLength (table_container told) [] (omega (arith, small)) (All-nil FitsLength))).0
          ∙ ap (λ (o : Option TtData). first_of (cons_option o [])) (table_back told (fits_table flags version records table changes));
      stamp = ap (λ sums. record { byte = version.byte; sums = sums }) (sums_told_same version.table);
      changes = changes_same records changes;
    }

-- a table alone has no part beside it
pub no_part_beside : (flags : ℕ) (version : Version) (records : List Change) → FitsAnswer version.table → AllByRecursion FitsChange records → length records ≤ 1024
    → first_part (containers_of (containers_spelling (table_container (table_told flags (stamp_of_commit version) records) ∷ []))) ≡ None
no_part_beside flags version records table changes few =
    let told = table_told flags (stamp_of_commit version) records in
    let small = body_small flags version records table changes few in
    ap first_part (read_back (table_container told ∷ []) (All-cons FitsLength (table_container told) [] (omega (arith, small)) (All-nil FitsLength))).0

-- ---- parts
-- the part of a version's table with these records, by its number, of so many
abbrev pub told_part : Version → ℕ → ℕ → List Change → TtPart
told_part version number count records = record { table = table_told (with_full response_flag true) (stamp_of_commit version) records; number = number; count = count }

-- what is told of a part is told again
pub record IsPartAgain (version : Version) (number count : ℕ) (records : List Change) (tail : List ℕ) : Type 0 where
  pub small : length tail < 65536
  pub no_table : first_table (containers_of tail) ≡ None
  pub found : part_told (first_part (containers_of tail)) ≡ Answers (stamp_of_commit version) (InPart number count records)

pub part_again : (version : Version) (number count : ℕ) (records : List Change) → FitsAnswer version.table → AllByRecursion FitsChange records → length records ≤ 1024 → number < 65536 → count < 65536
    → IsPartAgain version number count records (containers_spelling (part_container (told_part version number count records) ∷ []))
part_again version number count records table changes few low some =
    let part = told_part version number count records in
    let container = part_container part in
    let long = part_body_long part (keys_fit records changes) in
    let sums = sums_few_of version.table in
    let most = table.few in
    let small : length (tt_part_spelling part) ≤ 45064 = omega (arith, long, sums, most, few, length_mapped record_of_change records) in
    let read = (read_back (container ∷ []) (All-cons FitsLength container [] (omega (arith, small)) (All-nil FitsLength))).0 in
    record {
      small = omega (arith, one_long container, small);
      no_table = ap first_table read;
      found = ap (λ cs. part_told (first_part cs)) read
          ∙ ap (λ (o : Option TtPart). part_told (first_of (cons_option o []))) (part_back part (fits_table (with_full response_flag true) version records table changes) (omega (arith, low)) (omega (arith, some)))
          ∙ ap₂ (λ (s : Stamp) cs. Answers s (InPart number count cs)) (ap (λ sums. record { byte = version.byte; sums = sums }) (sums_told_same version.table)) (changes_same records changes);
    }

-- ---- beside other containers
-- containers that are no tables, and how few bytes they are
record IsNoTable (cs : List Container) : Type 0 where
  others : AllByRecursion (λ (c : Container). is_of tt_tvlv tvlv_version c ≡ false) cs
  fits : All FitsLength cs
  small : length (containers_spelling cs) ≤ 12

-- the first table is behind them
table_behind : (front back : List Container) → AllByRecursion (λ (c : Container). is_of tt_tvlv tvlv_version c ≡ false) front → first_table (front ++ back) ≡ first_table back
table_behind [] back others = refl
table_behind (c ∷ front) back others =
    ap (λ b. first_of (filter_map (λ (x : Container). table_of_body x.body) (cond b (c ∷ filter (is_of tt_tvlv tvlv_version) (front ++ back)) (filter (is_of tt_tvlv tvlv_version) (front ++ back))))) others.0
    ∙ table_behind front back others.1

no_container : IsNoTable []
no_container = record { others = tt; fits = All-nil FitsLength; small = omega arith }

one_no_table : (c : Container) → is_of tt_tvlv tvlv_version c ≡ false → length c.body ≤ 8 → IsNoTable (c ∷ [])
one_no_table c other small = record { others = (other, tt); fits = All-cons FitsLength c [] (omega (arith, small)) (All-nil FitsLength); small = omega (arith, one_long c, small) }

gateway_no_table : (part : GatewayPart) → IsNoTable (gateway_part part)
gateway_no_table NoPart = no_container
gateway_no_table (Serves offered) = one_no_table (gateway_container offered) refl (omega arith)
gateway_no_table (Chooses policy) = no_container

arp_no_table : (on : Bool) → IsNoTable (arp_table_part on)
arp_no_table true = one_no_table arp_table_container refl (omega arith)
arp_no_table false = no_container

multicast_no_table : (flags : ℕ) → IsNoTable (multicast_part flags)
multicast_no_table flags = go (flags == 0)
  where
    go : (b : Bool) → IsNoTable (cond b [] (multicast_container flags ∷ []))
    go true = no_container
    go false = one_no_table (multicast_container flags) refl (omega arith)

spelled_long : (xs ys : List Container) → length (containers_spelling (xs ++ ys)) ≡ length (containers_spelling xs) + length (containers_spelling ys)
spelled_long xs ys = ap length (flat_map-append container_spelling xs ys) ∙ length-append (containers_spelling xs) (containers_spelling ys)

pub own_again : (settings : Settings) (version : Version) (records : List Change) → FitsAnswer version.table → AllByRecursion FitsChange records → length records ≤ 1024
    → IsToldAgain ogm_diff_flag version records (containers_spelling (own_containers settings (table_told ogm_diff_flag (stamp_of_commit version) records)))
own_again settings version records table changes few =
    let told = table_told ogm_diff_flag (stamp_of_commit version) records in
    let gateway = gateway_part settings.gateway in
    let arp = arp_table_part settings.arp_table in
    let flags = multicast_part settings.multicast in
    let first = gateway_no_table settings.gateway in
    let second = arp_no_table settings.arp_table in
    let last = multicast_no_table settings.multicast in
    let body = body_small ogm_diff_flag version records table changes few in
    let all = own_containers settings told in
    let fits : All FitsLength all =
    All-append FitsLength (gateway ++ arp) (table_container told ∷ flags) (All-append FitsLength gateway arp first.fits second.fits) (All-cons FitsLength (table_container told) flags (omega (arith, body)) last.fits) in
    let one = first.small in
    let two = second.small in
    let three = last.small in
    record {
      small = omega (arith, body, one, two, three, one_long (table_container told), spelled_long (gateway ++ arp) (table_container told ∷ flags), spelled_long gateway arp, spelled_long (table_container told ∷ []) flags);
      found = ap first_table (read_back all fits).0
          ∙ ap first_table (append_assoc gateway arp (table_container told ∷ flags))
          ∙ table_behind gateway (arp ++ (table_container told ∷ flags)) first.others ∙ table_behind arp (table_container told ∷ flags) second.others
          ∙ ap (λ (o : Option TtData). first_of (cons_option o (filter_map (λ (c : Container). table_of_body c.body) (filter (is_of tt_tvlv tvlv_version) flags)))) (table_back told (fits_table ogm_diff_flag version records table changes));
      stamp = ap (λ sums. record { byte = version.byte; sums = sums }) (sums_told_same version.table);
      changes = changes_same records changes;
    }

-- an answer is read as one
pub answers_again : (full : Bool) (version : Version) (records : List Change) (tail : List ℕ) → IsToldAgain (with_full response_flag full) version records tail
    → message_in (first_table (containers_of tail)) ≡ Answers (stamp_of_commit version) (carried_told full records)
answers_again true version records tail told = ap message_in told.found ∙ ap₂ (λ s cs. Answers s (carried_told true cs)) told.stamp told.changes
answers_again false version records tail told = ap message_in told.found ∙ ap₂ (λ s cs. Answers s (carried_told false cs)) told.stamp told.changes

-- ---- what is no answer
-- no answer is among containers
abbrev pub HoldsNoAnswer : List ℕ → Type 0
HoldsNoAnswer tail = (stamp : Stamp) (carried : Carried) → HoldsAnswer tail stamp carried → ⊥

pub no_part_answers : (tail : List ℕ) → first_part (containers_of tail) ≡ None → (stamp : Stamp) (carried : Carried) → part_told (first_part (containers_of tail)) ≡ Answers stamp carried → ⊥
no_part_answers tail none stamp carried is = let both : Neither ≡ Answers stamp carried = sym (ap part_told none) ∙ is in absurd cc

pub no_table_answers : (tail : List ℕ) → first_table (containers_of tail) ≡ None → (stamp : Stamp) (carried : Carried) → message_in (first_table (containers_of tail)) ≡ Answers stamp carried → ⊥
no_table_answers tail none stamp carried is = let both : Neither ≡ Answers stamp carried = sym (ap message_in none) ∙ is in absurd cc

-- nor where no table is an answer, and no part is among them
neither_answers : (tail : List ℕ) → ((stamp : Stamp) (carried : Carried) → message_in (first_table (containers_of tail)) ≡ Answers stamp carried → ⊥) → first_part (containers_of tail) ≡ None → HoldsNoAnswer tail
neither_answers tail table none stamp carried (inl is) = table stamp carried is
neither_answers tail table none stamp carried (inr is) = no_part_answers tail none stamp carried is

pub advert_answers_none : (key : Key) → FitsKey key → HoldsNoAnswer (containers_spelling (roaming_container key ∷ []))
advert_answers_none key fits =
    let tail = containers_spelling (roaming_container key ∷ []) in
    let six = fits.address in
    let small : FitsLength (roaming_container key) = omega (arith, length-append key.mac.0 (key.vid.0 / 256 % 256 ∷ key.vid.0 % 256 ∷ []), six) in
    let read = (read_back (roaming_container key ∷ []) (All-cons FitsLength (roaming_container key) [] small (All-nil FitsLength))).0 in
    neither_answers tail (no_table_answers tail (ap first_table read)) (ap first_part read)

pub advert_small : (key : Key) → FitsKey key → length (containers_spelling (roaming_container key ∷ [])) < 65536
advert_small key fits =
    let six = fits.address in
    omega (arith, one_long (roaming_container key), length-append key.mac.0 (key.vid.0 / 256 % 256 ∷ key.vid.0 % 256 ∷ []), six)

-- a request, by its flags
asks : (request : Request) (vlans : List VlanSum) (ttvn : ℕ) (changes : List TtChange) (stamp : Stamp) (carried : Carried)
    → table_message (record { flags = request_flags request; ttvn = ttvn; vlans = vlans; changes = changes }) ≡ Answers stamp carried → ⊥
asks Full vlans ttvn changes stamp carried is = cc
asks Changes vlans ttvn changes stamp carried is = cc

asked : (request : Request) (stamp : Stamp) (b : Bool) (told : Stamp) (carried : Carried)
    → message_in (first_of (cons_option (cond b None (Some (tt_data 4 (tt_spelling (table_told (request_flags request) stamp []))))) [])) ≡ Answers told carried → ⊥
asked request stamp true told carried is = cc
asked request stamp false told carried is =
    let body = tt_spelling (table_told (request_flags request) stamp []) in
    asks request (tt_data 4 body).vlans (tt_data 4 body).ttvn (tt_data 4 body).changes told carried is

-- a request is no answer
pub request_answers_none : (request : Request) (stamp : Stamp) → 8 + 8 * length stamp.sums < 65536 → HoldsNoAnswer (request_containers request stamp)
request_answers_none request stamp room =
    let tail = request_containers request stamp in
    let body = tt_spelling (table_told (request_flags request) stamp []) in
    let c = table_container (table_told (request_flags request) stamp []) in
    let long : length body ≡ 4 + 8 * length stamp.sums = (let vlans = vlans_long stamp.sums in omega (arith, vlans, length-append (flat_map vlan_spelling stamp.sums) [])) in
    let read : containers_of (request_containers request stamp) ≡ c ∷ [] = (read_back (c ∷ []) (All-cons FitsLength c [] (omega (arith, long, room)) (All-nil FitsLength))).0 in
    neither_answers tail (λ told carried is. asked request stamp (nat_lt (length body) (4 + vlans_size body)) told carried (ap (λ cs. message_in (first_table cs)) (sym read) ∙ is)) (ap first_part read)

pub request_small : (request : Request) (stamp : Stamp) → 8 + 8 * length stamp.sums < 65536 → length (request_containers request stamp) < 65536
request_small request stamp room =
    let c = table_container (table_told (request_flags request) stamp []) in
    let vlans = vlans_long stamp.sums in
    omega (arith, one_long c, vlans, length-append (flat_map vlan_spelling stamp.sums) [], room)

-- the sums of a table in containers find room in a request
pub told_room : (tail : List ℕ) (table : TtData) → length tail < 65536 → first_table (containers_of tail) ≡ Some table → 8 + 8 * length (stamp_told table).sums < 65536
told_room tail table small is =
    let room = table_fits tail table is in
    omega (arith, room, small, sums_few table.vlans)
