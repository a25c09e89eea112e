-- The clients that the packets of a link frame say have roamed, in whatever order they are noted.
use Rattle.std.proofs.Common.{◌≡◌, ℕ, Bool, true, false, List, [], ◌∷◌, ◌++◌, refl, sym, ap, ◌∙◌, subst, Option, Some, None}
use Rattle.std.specs.Prelude.{◌&&◌, filter_map, map, option_and_then, option_map, if◌then◌else◌}
use Rattle.std.specs.List.{cons_option}
use Rattle.mesh_base.specs.declared.address.Mac.{Mac}
use Rattle.mesh_base.specs.declared.client.Key.{Key}
use Rattle.mesh_model.specs.declared.packet.Head.{Head}
use Rattle.mesh_model.specs.declared.packet.Head.TheVariants.{IvOgm, Bcast, Elp, Ogm2, Unicast, Frag, Unicast4, Icmp, Utvlv}
use Rattle.mesh_model.specs.Clients.Mentions.{Mention, roamed, roamed_in, roamed_by}
use Rattle.mesh_model.specs.Clients.Present.{last_membership, last_mention, row_by, same_key}
use Rattle.mesh_model.specs.Commits.History.{History}
use Rattle.mesh_model.specs.Packets.Containers.{containers_of}
use Rattle.mesh_model.specs.Packets.Contents.{first_roaming}
use Rattle.mesh_model.specs.Packets.FirstPacket.{Packet}
use Rattle.mesh_model.specs.Routes.Addresses.{same_mac}
use Rattle.tt_local.specs.Locals.{LocalsStand, LocalsView}

-- ---- the order doesn't matter

-- a mention that ends a presence, before or behind others that do
either : (at now : ℕ) (first key : Key) (b c : Bool) (behind rest : Option Mention)
    → option_and_then (row_by at) behind ≡ option_and_then (row_by at) (if c && true then Some (roamed now key) else rest)
    → option_and_then (row_by at) (if b && true then Some (roamed now first) else behind)
    ≡ option_and_then (row_by at) (if c && true then Some (roamed now key) else if b && true then Some (roamed now first) else rest)
either at now first key true true behind rest is = refl
either at now first key true false behind rest is = refl
either at now first key false true behind rest is = is
either at now first key false false behind rest is = is

neither : (at now : ℕ) (first key : Key) (b c : Bool) (behind rest : Option Mention)
    → option_and_then (row_by at) behind ≡ option_and_then (row_by at) (if c && false then Some (roamed now key) else rest)
    → option_and_then (row_by at) (if b && false then Some (roamed now first) else behind)
    ≡ option_and_then (row_by at) (if c && false then Some (roamed now key) else if b && false then Some (roamed now first) else rest)
neither at now first key true true behind rest is = is
neither at now first key true false behind rest is = is
neither at now first key false true behind rest is = is
neither at now first key false false behind rest is = is

mentioned : (at now : ℕ) (key : Key) (keys : List Key) (older : List Mention) (q : Key)
    → option_and_then (row_by at) (last_mention (map (roamed now) keys ++ roamed now key ∷ older) q)
    ≡ option_and_then (row_by at) (last_mention (roamed now key ∷ (map (roamed now) keys ++ older)) q)
mentioned at now key [] older q = refl
mentioned at now key (first ∷ keys) older q = either at now first key (same_key q first) (same_key q key)
    (last_mention (map (roamed now) keys ++ roamed now key ∷ older) q) (last_mention (map (roamed now) keys ++ older) q) (mentioned at now key keys older q)

joined : (at now : ℕ) (key : Key) (keys : List Key) (older : List Mention) (q : Key)
    → option_and_then (row_by at) (last_membership (map (roamed now) keys ++ roamed now key ∷ older) q)
    ≡ option_and_then (row_by at) (last_membership (roamed now key ∷ (map (roamed now) keys ++ older)) q)
joined at now key [] older q = refl
joined at now key (first ∷ keys) older q = neither at now first key (same_key q first) (same_key q key)
    (last_membership (map (roamed now) keys ++ roamed now key ∷ older) q) (last_membership (map (roamed now) keys ++ older) q) (joined at now key keys older q)

moved : (view : LocalsView) (now : ℕ) (key : Key) (keys : List Key) (older : List Mention) (history : History) (since : ℕ)
    → LocalsStand view (map (roamed now) keys ++ roamed now key ∷ older) history since → LocalsStand view (roamed now key ∷ (map (roamed now) keys ++ older)) history since
moved view now key keys older history since stands = record {
  clients = record {
    sighted = λ q at late. stands.clients.sighted q at late ∙ mentioned at now key keys older q;
    joined = λ q at. stands.clients.joined q at ∙ joined at now key keys older q;
    ordered = stands.clients.ordered;
  };
  journal = stands.journal;
}

-- ---- what packets say

-- a packet names a client that roamed, or none
one : (me : Mac) (now : ℕ) (tail : List ℕ) (head : Head) → (key : Option Key) × (roamed_in me now tail head ≡ option_map (roamed now) key)
one me now tail (IvOgm ttl flags seq orig prev tq) = (None, refl)
one me now tail (Bcast ttl seq orig) = (None, refl)
one me now tail (Elp orig seq interval) = (None, refl)
one me now tail (Ogm2 ttl flags seq orig throughput) = (None, refl)
one me now tail (Unicast ttl ttvn dst) = (None, refl)
one me now tail (Frag ttl number priority dst orig seq total) = (None, refl)
one me now tail (Unicast4 ttl ttvn dst src subtype) = (None, refl)
one me now tail (Icmp ttl msg dst orig uid seq) = (None, refl)
one me now tail (Utvlv ttl dst src) = by_address (same_mac dst me)
  where
    by_address : (b : Bool) → (key : Option Key) × ((if b then option_map (roamed now) (first_roaming (containers_of tail)) else None) ≡ option_map (roamed now) key)
    by_address true = (first_roaming (containers_of tail), refl)
    by_address false = (None, refl)

pub named : (me : Mac) (now : ℕ) (packets : List Packet) → (keys : List Key) × (filter_map (roamed_by me now) packets ≡ map (roamed now) keys)
named me now [] = ([], refl)
named me now (packet ∷ rest) =
    let first = one me now packet.tail packet.head in
    let others = named me now rest in
    with_first first.0 (roamed_by me now packet) others.0 first.1 others.1
  where
    with_first : (key : Option Key) (o : Option Mention) (keys : List Key) → o ≡ option_map (roamed now) key → filter_map (roamed_by me now) rest ≡ map (roamed now) keys
        → (all : List Key) × (cons_option o (filter_map (roamed_by me now) rest) ≡ map (roamed now) all)
    with_first None o keys is are = (keys, ap (λ o. cons_option o (filter_map (roamed_by me now) rest)) is ∙ are)
    with_first (Some key) o keys is are =
        (key ∷ keys, ap (λ o. cons_option o (filter_map (roamed_by me now) rest)) is ∙ ap (λ ms. roamed now key ∷ ms) are)

-- ---- a link frame of which the first packets were noted

-- what stands behind the rest stands behind the whole
pub record AreNoted (me : Mac) (whole rest : List Packet) (old here : LocalsView) : Type 0 where
  pub each : (mentions : List Mention) (history : History) (since now : ℕ) → LocalsStand old mentions history since
      → (before : List Mention) × LocalsStand here before history since
      × ((view : LocalsView) → LocalsStand view (filter_map (roamed_by me now) rest ++ before) history since
      → LocalsStand view (filter_map (roamed_by me now) whole ++ mentions) history since)

-- before the first
pub begins : (me : Mac) (whole : List Packet) (view : LocalsView) → AreNoted me whole whole view view
begins me whole view = record { each = λ mentions history since now stands. (mentions, stands, λ view is. is) }

-- behind one more
pub goes_on : (me : Mac) (whole rest : List Packet) (packet : Packet) (old here next : LocalsView) → AreNoted me whole (packet ∷ rest) old here
    → ((mentions : List Mention) (history : History) (since now : ℕ) → LocalsStand here mentions history since
    → LocalsStand next (cons_option (roamed_by me now packet) mentions) history since)
    → AreNoted me whole rest old next
goes_on me whole rest packet old here next way noted = record {
  each = λ mentions history since now stands.
      let at = way.each mentions history since now stands in
      let first = one me now packet.tail packet.head in (
        cons_option (roamed_by me now packet) at.0,
        noted at.0 history since now at.1,
        λ view is.
            at.2 view (behind now at.0 history since view first.0 (roamed_by me now packet) first.1 is),
      );
}
  where
    behind : (now : ℕ) (before : List Mention) (history : History) (since : ℕ) (view : LocalsView) (key : Option Key) (o : Option Mention) → o ≡ option_map (roamed now) key
        → LocalsStand view (filter_map (roamed_by me now) rest ++ cons_option o before) history since
        → LocalsStand view (cons_option o (filter_map (roamed_by me now) rest) ++ before) history since
    behind now before history since view None o is stands =
        subst (λ (x : Option Mention). LocalsStand view (cons_option x (filter_map (roamed_by me now) rest) ++ before) history since) (sym is)
        (subst (λ (x : Option Mention). LocalsStand view (filter_map (roamed_by me now) rest ++ cons_option x before) history since) is stands)
    behind now before history since view (Some key) o is stands =
        let keys = named me now rest in
        let one_more : LocalsStand view (map (roamed now) keys.0 ++ roamed now key ∷ before) history since
        = subst (λ (ms : List Mention). LocalsStand view (ms ++ roamed now key ∷ before) history since) keys.1
        (subst (λ (x : Option Mention). LocalsStand view (filter_map (roamed_by me now) rest ++ cons_option x before) history since) is stands) in
        subst (λ (x : Option Mention). LocalsStand view (cons_option x (filter_map (roamed_by me now) rest) ++ before) history since) (sym is)
        (subst (λ (ms : List Mention). LocalsStand view (roamed now key ∷ (ms ++ before)) history since) (sym keys.1) (moved view now key keys.0 before history since one_more))

-- behind the last
pub ends : (me : Mac) (whole : List Packet) (old here : LocalsView) → AreNoted me whole [] old here → (mentions : List Mention) (history : History) (since now : ℕ)
    → LocalsStand old mentions history since → LocalsStand here (filter_map (roamed_by me now) whole ++ mentions) history since
ends me whole old here way mentions history since now stands =
    let at = way.each mentions history since now stands in
    at.2 here at.1
