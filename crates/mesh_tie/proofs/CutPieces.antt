-- A fragment of a cut is a piece of it; and of the pieces that came, a part makes the packet whole that
-- was cut, and no other.
use Rattle.std.proofs.Common.{◌≡◌, ◌⊎◌, inl, inr, ◌+◌, ◌<◌, ◌≤◌, ◌==◌, ◌&&◌, ℕ, zero, suc, true, List, [], ◌∷◌, length, slice_get, Option, Some, None, IsSomeAnd, is_some, option_and_then, option_map, Result, Ok, Err, refl, sym, ap, ap₂, ◌∙◌, subst, arith}
use Rattle.std.specs.List.{AllByRecursion, enumerate_from}
use Rattle.std.proofs.lemmas.Bool.{and_parts, cases_lt, eqb-true, false≢true}
use Rattle.std.proofs.lemmas.Option.{same_Some, slice_get-map, slice_get_past}
use Rattle.mesh_base.specs.declared.address.Mac.{Mac}
use Rattle.mesh_model.specs.declared.link_frame.NoPacket.{NoPacket}
use Rattle.mesh_model.specs.Fragments.Assembly.{PartCall, made_whole}
use Rattle.mesh_model.specs.Fragments.Cutting.{CanBeMade, Cut, Reach, fragment_of, fragments_within, reach_of, reach_of_head, tails}
use Rattle.mesh_model.specs.Knowledge.PutTogether.{Carried, carried_in, put_together}
use Rattle.mesh_model.specs.Net.Mesh.{Mesh, NodeLog}
use Rattle.mesh_model.specs.Net.Next.{Has}
use Rattle.mesh_model.specs.Packets.FirstPacket.{Front, first_packet}
use Rattle.mesh_model.specs.Routes.Addresses.{same_mac}
use Rattle.mesh_model.specs.Routes.Queries.{Queries}
use Rattle.mesh_laws.specs.CutLaws.{cuts_of_log}
use Rattle.mesh_laws.proofs.MacLemmas.{same_exact}
use Rattle.mesh_laws.proofs.PacketCuts.{cuts_are_numbered}
use Rattle.mesh_laws.proofs.Schedule.Members.{one_some}
use Rattle.mesh_frag.specs.Frags.{part_of_head}
use Rattle.mesh_frag.specs.Laws.{AreFragments, IsFragment, is_of_cut}
use Rattle.mesh_frag.proofs.CutLemmas.{few, within}
use Rattle.mesh_frag.proofs.WholeLemmas.{only_whole}
use Rattle.mesh_tie.specs.CutPackets.{CutsAreKnownByNumber, IsPieceOfCut, WasCut}
use Rattle.mesh_tie.specs.Tie.{IsOrderly}

-- ---- numbers
-- the place of a cut among others
place_of : {X : Type 0} (xs : List X) (x : X) → Has xs x → (i : ℕ) × (slice_get xs i ≡ Some x)
place_of [] x has = absurd has
place_of (first ∷ xs) x (inl is) = (0, ap (λ y. Some y) (sym is))
place_of (first ∷ xs) x (inr has) = let p = place_of xs x has in (suc p.0, p.1)

pub cuts_are_known_by_number : CutsAreKnownByNumber
cuts_are_known_by_number q me log cut other has more same =
    let numbered = (cuts_are_numbered q me log).numbered in
    let one = place_of (cuts_of_log q me log) cut has in
    let two = place_of (cuts_of_log q me log) other more in
    let first = numbered one.0 cut one.1 in
    let second = numbered two.0 other two.1 in
    let at : one.0 ≡ two.0 = omega (arith, first, second, same) in
    same_Some cut other (sym one.1 ∙ ap (slice_get (cuts_of_log q me log)) at ∙ two.1)

-- ---- pieces
placed : (first : ℕ) (xs : List (List ℕ)) (i : ℕ) (x : List ℕ) → slice_get xs i ≡ Some x → slice_get (enumerate_from first xs) i ≡ Some (first + i, x)
placed first [] i x is = cc
placed first (y ∷ xs) zero x is = let here : first ≡ first + 0 = omega arith in ap₂ (λ (n : ℕ) (t : List ℕ). Some (n, t)) here (same_Some y x is)
placed first (y ∷ xs) (suc i) x is = let more : first + 1 + i ≡ first + suc i = omega arith in placed (first + 1) xs i x is ∙ ap (λ (n : ℕ). Some (n, x)) more

-- a piece at a place
abbrev pub IsPieceAt : Cut → ℕ → List ℕ → Type 0
IsPieceAt cut place tail = slice_get (tails cut.most cut.packet) place ≡ Some tail

fragment_there : (cut : Cut) (reach : Reach) (place : ℕ) (tail : List ℕ) → IsPieceAt cut place tail → slice_get (fragments_within cut (Some reach)) place ≡ Some (fragment_of cut reach (place, tail))
fragment_there cut reach place tail piece =
    let same : 0 + place ≡ place = omega arith in
    slice_get-map (fragment_of cut reach) (enumerate_from 0 (tails cut.most cut.packet)) place
    ∙ ap (option_map (fragment_of cut reach)) (placed 0 (tails cut.most cut.packet) place tail piece)
    ∙ ap (λ (n : ℕ). Some (fragment_of cut reach (n, tail))) same

-- where the packet of a cut that can be made goes
reach_there : (o : Option Reach) → is_some o ≡ true → (reach : Reach) × (o ≡ Some reach)
reach_there None is = absurd (false≢true is)
reach_there (Some reach) is = (reach, refl)

pub place_small : (cut : Cut) (place : ℕ) (tail : List ℕ) → CanBeMade cut → IsPieceAt cut place tail → place < 16
place_small cut place tail can piece = go (cases_lt place (length all))
  where
    r : (reach : Reach) × (reach_of cut.packet ≡ Some reach)
    r = reach_there (reach_of cut.packet) can.unicast

    all : List (Rattle.mesh_model.specs.declared.packet.Head.Head × List ℕ)
    all = fragments_within cut (Some r.0)

    go : (place < length all) ⊎ (length all ≤ place) → place < 16
    go (inl low) = few cut can place (within cut r.0 all place refl low)
    go (inr high) = absurd (let both : ◌≡◌ {A = Option (Rattle.mesh_model.specs.declared.packet.Head.Head × List ℕ)} None (Some (fragment_of cut r.0 (place, tail))) = sym (slice_get_past all place high) ∙ fragment_there cut r.0 place tail piece in cc)

-- a part is a fragment of a cut
part_is : (cut : Cut) (call : PartCall) → CanBeMade cut → call.orig ≡ cut.me → call.seq ≡ cut.number → call.total ≡ length cut.packet → IsPieceAt cut call.place call.tail → IsFragment cut call
part_is cut call can orig seq total piece =
    let r = reach_there (reach_of cut.packet) can.unicast in
    subst (λ o. IsSomeAnd o (λ fragment. part_of_head call.moment fragment.0 fragment.1 ≡ Some call))
    (sym (ap (λ o. slice_get (fragments_within cut o) call.place) r.1 ∙ fragment_there cut r.0 call.place call.tail piece))
    (ap (λ (m : Mac). Some (record { moment = call.moment; orig = m; seq = cut.number; total = length cut.packet; place = call.place; tail = call.tail })) (sym orig)
    ∙ ap₂ (λ (s t : ℕ). Some (record { moment = call.moment; orig = call.orig; seq = s; total = t; place = call.place; tail = call.tail })) (sym seq) (sym total))

-- ---- parts in a mesh
-- something holds of what a packet for one node carries
abbrev pub PacketCarries : (List ℕ → Type 0) → List ℕ → Type 0
PacketCarries Q bytes = (front : Front) → first_packet bytes ≡ Ok front → (reach : Reach) → reach_of_head front.packet.head ≡ Some reach → Q front.packet.tail

-- a part is a piece of a cut, and something holds of what its packet carries
pub record IsPartOf (queries : Mac → Queries) (mesh : Mesh) (Q : List ℕ → Type 0) (orig : Mac) (seq total place : ℕ) (tail : List ℕ) : Type 0 where
  pub of : IsPieceOfCut queries mesh orig seq total place tail
  pub can : CanBeMade of.cut
  pub low : of.cut.number ≤ 65535
  pub own : of.cut.me ≡ orig
  pub carries : PacketCarries Q of.cut.packet

abbrev pub IsPartCall : (Mac → Queries) → Mesh → (List ℕ → Type 0) → PartCall → Type 0
IsPartCall queries mesh Q call = IsPartOf queries mesh Q call.orig call.seq call.total call.place call.tail

module _ (queries : Mac → Queries) (mesh : Mesh) (o : IsOrderly queries mesh) (Q : List ℕ → Type 0) where
  -- two nodes of one address are one
  one_node : (place other : ℕ) (node second : NodeLog) → slice_get mesh.nodes place ≡ Some node → slice_get mesh.nodes other ≡ Some second → node.mac ≡ second.mac → node ≡ second
  one_node place other node second found more same =
      let at = o.distinct place other node second found more same in
      one_some node second (sym found ∙ ap (slice_get mesh.nodes) at ∙ more)

  -- two cuts of one address with one number are one
  one_cut : (orig : Mac) (cut other : Cut) → WasCut queries mesh orig cut → WasCut queries mesh orig other → cut.number ≡ other.number → cut ≡ other
  one_cut orig cut other was also same =
      let node = one_node was.place also.place was.node also.node was.found also.found (was.address ∙ sym also.address) in
      cuts_are_known_by_number (queries was.node.mac) was.node.mac was.node.log cut other was.made
      (subst (λ (n : NodeLog). Has (cuts_of_log (queries n.mac) n.mac n.log) other) (sym node) also.made) same

  is_fragment : (call : PartCall) → (p : IsPartCall queries mesh Q call) → IsFragment p.of.cut call
  is_fragment call p = part_is p.of.cut call p.can (sym p.own) p.of.number_is p.of.length_is p.of.piece

  are_fragments : (call : PartCall) (p : IsPartCall queries mesh Q call) (older : List PartCall) → AllByRecursion (IsPartCall queries mesh Q) older → AreFragments p.of.cut older
  are_fragments call p [] all = tt
  are_fragments call p (one ∷ older) all = (fragment all.0, are_fragments call p older all.1)
    where
      cut : Cut
      cut = p.of.cut

      fragment : IsPartCall queries mesh Q one → is_of_cut cut one ≡ true → IsFragment cut one
      fragment r is =
          let both = and_parts (same_mac one.orig cut.me && (one.seq == cut.number)) (one.total == length cut.packet) is in
          let two = and_parts (same_mac one.orig cut.me) (one.seq == cut.number) both.0 in
          let orig : one.orig ≡ call.orig = same_exact one.orig cut.me two.0 ∙ p.own in
          let number : r.of.cut.number ≡ cut.number = sym r.of.number_is ∙ eqb-true one.seq cut.number two.1 in
          let same : r.of.cut ≡ cut = one_cut call.orig r.of.cut cut (subst (λ (m : Mac). WasCut queries mesh m r.of.cut) orig r.of.was_cut) p.of.was_cut number in
          subst (λ (c : Cut). IsFragment c one) same (is_fragment one r)

  -- what a part makes whole is the packet that was cut
  pub whole_is_cut : (call : PartCall) (p : IsPartCall queries mesh Q call) (older : List PartCall) (bytes : List ℕ) → AllByRecursion (IsPartCall queries mesh Q) older → made_whole call older ≡ Some bytes → bytes ≡ p.of.cut.packet
  whole_is_cut call p older bytes all made = only_whole p.of.cut call older bytes (is_fragment call p) (are_fragments call p older all) made

  -- so it holds of what is put together
  pub joined_carries : (call : PartCall) (older : List PartCall) (one : Carried) → IsPartCall queries mesh Q call → AllByRecursion (IsPartCall queries mesh Q) older → put_together call older ≡ Some one → Q one.payload
  joined_carries call older one p all is = go (made_whole call older) refl is
    where
      by_reach : (front : Front) (r : Option Reach) → reach_of_head front.packet.head ≡ r → first_packet p.of.cut.packet ≡ Ok front → option_map (λ (reach : Reach). record { ttl = reach.ttl; payload = front.packet.tail }) r ≡ Some one → Q one.payload
      by_reach front None none first e = cc
      by_reach front (Some reach) goes first e =
          let same : record { ttl = reach.ttl; payload = front.packet.tail } ≡ one = cc in
          subst (λ (c : Carried). Q c.payload) same (p.carries front first reach goes)

      by_packet : (r : Result Front NoPacket) → first_packet p.of.cut.packet ≡ r → carried_in r ≡ Some one → Q one.payload
      by_packet (Err cause) first e = cc
      by_packet (Ok front) first e = by_reach front (reach_of_head front.packet.head) refl first e

      go : (made : Option (List ℕ)) → made_whole call older ≡ made → option_and_then (λ bytes. carried_in (first_packet bytes)) made ≡ Some one → Q one.payload
      go None none e = cc
      go (Some bytes) made e =
          let same = whole_is_cut call p older bytes all made in
          by_packet (first_packet p.of.cut.packet) refl (subst (λ b. carried_in (first_packet b) ≡ Some one) same e)
