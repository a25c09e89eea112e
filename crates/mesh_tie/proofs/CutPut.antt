-- Each fragment that was ever sent is a piece of a cut, and each packet that was put together is one
-- that was cut.
use Rattle.std.proofs.Common.{ℕ, List, [], ◌∷◌, ◌++◌, subst}
use Rattle.std.specs.List.{AllByRecursion}
use Rattle.mesh_base.specs.declared.address.Mac.{Mac}
use Rattle.mesh_model.specs.declared.packet.Head.{Head}
use Rattle.mesh_model.specs.declared.packet.Head.TheVariants.{IvOgm, Bcast, Elp, Ogm2, Unicast, Frag, Unicast4, Icmp, Utvlv}
use Rattle.mesh_model.specs.Fragments.Assembly.{PartCall}
use Rattle.mesh_model.specs.Net.Mesh.{Mesh}
use Rattle.mesh_model.specs.Routes.Queries.{Queries}
use Rattle.mesh_tie.specs.Carried.{IsKept}
use Rattle.mesh_tie.specs.CutPackets.{FragmentsAreCut, IsCutPiece, PutTogetherWasCut}
use Rattle.mesh_tie.specs.Tie.{IsOrderly}
use Rattle.mesh_tie.proofs.CarriedHeads.{HeadHas, IsPart, Kept}
use Rattle.mesh_tie.proofs.CarriedOn.{all_kept, any_kept}
use Rattle.mesh_tie.proofs.CarriedSteps.{Payload, kept_in, put_facts}
use Rattle.mesh_tie.proofs.CutPieces.{whole_is_cut}
use Rattle.mesh_tie.proofs.OrderSteps.{orderly}

-- whatever is said of payloads
abbrev Any : Mesh → List ℕ → Type 0
Any mesh payload = Unit {0}

piece_is : (queries : Mac → Queries) (kept : IsKept queries Any) (mesh : Mesh) (o : IsOrderly queries mesh) (tail : List ℕ) (head : Head) → HeadHas (kept_in queries Any kept mesh o) tail head → IsCutPiece queries mesh tail head
piece_is queries kept mesh o tail (IvOgm ttl flags seq orig prev tq) h = tt
piece_is queries kept mesh o tail (Bcast ttl seq orig) h = tt
piece_is queries kept mesh o tail (Elp orig seq interval) h = tt
piece_is queries kept mesh o tail (Ogm2 ttl flags seq orig throughput) h = tt
piece_is queries kept mesh o tail (Unicast ttl ttvn dst) h = tt
piece_is queries kept mesh o tail (Frag ttl number priority dst orig seq total) h = h.2.of
piece_is queries kept mesh o tail (Unicast4 ttl ttvn dst src subtype) h = tt
piece_is queries kept mesh o tail (Icmp ttl msg dst orig uid seq) h = tt
piece_is queries kept mesh o tail (Utvlv ttl dst src) h = tt

pub fragments_are_cut : FragmentsAreCut
fragments_are_cut queries keep mesh r place frame packet got has =
    piece_is queries (any_kept queries) mesh (orderly queries mesh r) packet.tail packet.head ((all_kept queries Any (any_kept queries) keep mesh r).frames place frame got packet has)

-- what holds of parts holds of one among them, and of those before it
behind : (P : Kept) (later : List PartCall) (call : PartCall) (older : List PartCall) → AllByRecursion (IsPart P) (later ++ call ∷ older) → IsPart P call × AllByRecursion (IsPart P) older
behind P [] call older all = all
behind P (first ∷ later) call older all = behind P later call older all.1

pub put_together_was_cut : PutTogetherWasCut
put_together_was_cut queries keep mesh r place node call packet found p =
    let o = orderly queries mesh r in
    let K = kept_in queries Any (any_kept queries) mesh o in
    let all = (all_kept queries Any (any_kept queries) keep mesh r).parts place node found p.newer p.log p.log_is in
    let both = behind K p.later call p.older (subst (AllByRecursion (IsPart K)) p.parts_are all) in
    record {
      cut = both.0.of.cut;
      was_cut = both.0.of.was_cut;
      number_is = both.0.of.number_is;
      packet_is = whole_is_cut queries mesh o (Payload (put_facts queries mesh) (Any mesh)) call both.0 p.older packet both.1 p.whole;
    }
