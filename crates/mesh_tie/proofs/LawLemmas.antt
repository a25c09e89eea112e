-- The laws of what is sent and held, from those of the machine.
use Rattle.std.proofs.Common.{◌≡◌, ◌⊎◌, ℕ, List, [], map, Option, Some, None, option_map, IsTrue, refl, sym, ap, ap₂, subst, ◌∙◌, append-nil}
use Rattle.mesh_base.specs.declared.address.Mac.{Mac}
use Rattle.mesh_base.specs.declared.client.Entry.{Entry}
use Rattle.mesh_model.specs.Clients.Log.{Log}
use Rattle.mesh_model.specs.declared.table_change.Change.{Change}
use Rattle.mesh_model.specs.Commits.Announcements.{commit_at_root}
use Rattle.mesh_model.specs.Knowledge.Told.{message_changes, stamp_told}
use Rattle.mesh_model.specs.Net.Mesh.{Mesh, SentFrame}
use Rattle.mesh_model.specs.Packets.Bodies.{VlanSum}
use Rattle.mesh_model.specs.Routes.Queries.{Queries}
use Rattle.mesh_model.specs.Tables.Changes.{addition}
use Rattle.mesh_model.specs.Tables.Judging.{Carried, InFull, InPart, InChanges}
use Rattle.mesh_model.specs.Tables.Known.{Known, LastTold, agrees, is_agreed, known_by, stamp_of}
use Rattle.mesh_model.specs.Tables.Sums.{sum_at}
use Rattle.mesh_model.specs.Tables.Versions.{Stamp, Version}
use Rattle.mesh_laws.specs.Machine.Agreement.{AreOf, HasNoAlias, LeadTo}
use Rattle.mesh_laws.specs.Machine.Moves.{Reaches}
use Rattle.mesh_laws.specs.Machine.Pieces.{piece, piece_count, put_together}
use Rattle.mesh_laws.specs.Machine.World.{Differences, Piece, Told, World, IsCommit, WasSaid, commit_numbered, start}
use Rattle.mesh_laws.proofs.AnnouncedSums.{announces_checksums}
use Rattle.mesh_laws.proofs.DifferenceLemmas.{agrees_by_checksums}
use Rattle.mesh_laws.proofs.MachineLemmas.{agreed_hold_the_told, held_are_commits, sayings_agree, told_are_commits}
use Rattle.mesh_laws.proofs.PieceLemmas.{pieces_make_table}
use Rattle.mesh_tie.specs.Originators.{commits_of, log_of, number_at_root}
use Rattle.mesh_tie.specs.Sayings.{IsAnnounced, IsAnswered, WordSays, announcement_by, saying_of}
use Rattle.mesh_tie.specs.Tie.{IsTied, IsToldBy, known_at_node}
use Rattle.mesh_laws.specs.HeldLaws.{CarriesCommit, stamp_of_commit}
use Rattle.mesh_tie.specs.TieLaws.{AgreedAreTold, AnswersCarry, GatheredAreCommitted, HeldAreCommitted, IsWithoutAlias, MeshesAreTied, MessagesAnnounce, StepsAreMoves}
use Rattle.mesh_tie.proofs.CommitLemmas.{at_root}
use Rattle.mesh_tie.proofs.ReachLemmas.{reached_tied, step_moves}

pub meshes_are_tied : MeshesAreTied
meshes_are_tied queries keep mesh r orig = reached_tied queries keep mesh r orig

pub steps_are_moves : StepsAreMoves
steps_are_moves queries keep mesh after r s orig w base tied = step_moves queries keep mesh after r s orig w base tied

-- the world of a mesh without an alias
record HasWorld (queries : Mac → Queries) (orig : Mac) (mesh : Mesh) : Type 0 where
  world : World
  base : Reaches start world
  tied : IsTied queries orig mesh world
  none : HasNoAlias world.commits

world_of : (queries : Mac → Queries) (orig : Mac) (mesh : Mesh) → IsWithoutAlias queries orig mesh → HasWorld queries orig mesh
world_of queries orig mesh is =
    let tie = meshes_are_tied queries is.keep mesh is.reachable orig in
    record { world = tie.0; base = tie.1; tied = tie.2; none = subst HasNoAlias (sym tie.2.commits) is.none }

numbered_one : (made : List Version) (n : ℕ) (one other : Version) → commit_numbered n made ≡ Some one → commit_numbered n made ≡ Some other → one ≡ other
numbered_one made n one other a b = let both : Some one ≡ Some other = sym a ∙ b in cc

stamp_from : (stamp : Stamp) (commit : Version) → AreOf commit stamp.byte stamp.sums → stamp ≡ stamp_of_commit commit
stamp_from stamp commit of = ap₂ (λ (b : ℕ) (s : List VlanSum). record { byte = b; sums = s }) of.0 of.1

-- ---- what was sent
pub messages_announce : MessagesAnnounce
messages_announce queries orig mesh is place frame packet sent has word =
    let h = world_of queries orig mesh is in
    let log = log_of orig mesh.nodes in
    let says = subst (WordSays orig log h.world.said frame.root packet.tail) word (h.tied.frames place frame sent packet has).says in
    let a : IsAnnounced orig log h.world.said frame.root packet.tail = says.1 refl in
    let number = number_at_root orig log frame.root in
    let agrees = sayings_agree h.world h.base h.none (announcement_by number a.table) a.was_said in
    let one : agrees.0 ≡ commit_at_root orig log frame.root =
    numbered_one h.world.commits number agrees.0 (commit_at_root orig log frame.root) agrees.1 (ap (commit_numbered number) h.tied.commits ∙ at_root orig log frame.root) in (
      a.table,
      a.found,
      record {
        stamp = stamp_from (stamp_told a.table) agrees.0 agrees.2 ∙ ap stamp_of_commit one;
        changes = subst (λ made. (message_changes a.table ≡ []) ⊎ LeadTo made number (commit_at_root orig log frame.root) (message_changes a.table)) h.tied.commits
            (subst (λ c. (message_changes a.table ≡ []) ⊎ LeadTo h.world.commits number c (message_changes a.table)) one agrees.3);
      },
    )

-- a whole table in one piece
one_piece : (version : Version) (records : List Change) → 1 ≡ piece_count version.table → records ≡ piece 0 version.table → records ≡ map addition version.table
one_piece version records count are =
    are ∙ sym (append-nil (piece 0 version.table)) ∙ ap (λ n. put_together n (λ place. piece place version.table)) count ∙ pieces_make_table version.table

carried_agrees : (w : World) (made : List Version) (stamp : Stamp) (carried : Carried) → w.commits ≡ made → Reaches start w → HasNoAlias w.commits → WasSaid w.said (saying_of stamp carried) → CarriesCommit made stamp carried
carried_agrees w made stamp (InFull records) same base none was =
    let a = sayings_agree w base none (Piece stamp.byte stamp.sums 0 1 records) was in
    (a.0, subst (λ m. IsCommit m a.0) same a.1, stamp_from stamp a.0 a.2, one_piece a.0 records a.3 a.5)
carried_agrees w made stamp (InPart number count records) same base none was =
    let a = sayings_agree w base none (Piece stamp.byte stamp.sums number count records) was in
    (a.0, subst (λ m. IsCommit m a.0) same a.1, stamp_from stamp a.0 a.2, a.3, a.4, a.5)
carried_agrees w made stamp (InChanges records) same base none was =
    let a = sayings_agree w base none (Differences stamp.byte stamp.sums records) was in
    (a.0, a.1, ap (commit_numbered a.0) (sym same) ∙ a.2, stamp_from stamp a.1 a.3, subst (λ m. LeadTo m a.0 a.1 records) same a.4)

pub answers_carry : AnswersCarry
answers_carry queries orig mesh is place frame packet sent has word stamp carried message =
    let h = world_of queries orig mesh is in
    let log = log_of orig mesh.nodes in
    let says : orig ≡ orig → IsAnswered h.world.said packet.tail = subst (WordSays orig log h.world.said frame.root packet.tail) word (h.tied.frames place frame sent packet has).says in
    carried_agrees h.world (commits_of orig mesh) stamp carried h.tied.commits h.base h.none ((says refl).was_said stamp carried message)

-- ---- what is held
pub held_are_committed : HeldAreCommitted
held_are_committed queries orig mesh is place node held found holds =
    let h = world_of queries orig mesh is in
    let tied = h.tied.nodes place node found in
    subst (λ made. IsCommit made held) h.tied.commits (held_are_commits h.world h.base h.none place held (tied.held ∙ holds))

-- what the world's node was told, where a node was told something
told_of : (orig : Mac) (log : Log) (frames : List SentFrame) (last : Option LastTold) (told : Option Told) (wanted : Stamp) → IsToldBy orig log frames last told → option_map (λ (t : LastTold). t.stamp) last ≡ Some wanted
    → (number : ℕ) × (told ≡ Some (record { number = number; byte = wanted.byte; sums = wanted.sums }))
told_of orig log frames None told wanted is stamp = absurd cc
told_of orig log frames (Some last) told wanted is stamp =
    let same : last.stamp ≡ wanted = cc in
    (number_at_root orig log is.0.root, is.3 ∙ ap (λ (s : Stamp). Some (record { number = number_at_root orig log is.0.root; byte = s.byte; sums = s.sums })) same)

pub gathered_are_committed : GatheredAreCommitted
gathered_are_committed queries orig mesh is place node found number records there =
    let h = world_of queries orig mesh is in
    let known = known_by (known_at_node queries node).tables orig in
    let tied = h.tied.nodes place node found in
    let was = tied.gathered number records there in
    let wanted = was.0 in
    let told = told_of orig (log_of orig mesh.nodes) mesh.frames known.told (h.world.nodes place).told wanted tied.told was.1 in
    let what : Told = record { number = told.0; byte = wanted.byte; sums = wanted.sums } in
    let commit = told_are_commits h.world h.base h.none place what told.1 in
    let piece_was = was.3 in
    let a = sayings_agree h.world h.base h.none (Piece wanted.byte piece_was.0 number known.gathered.count records) piece_was.2 in
    let tables : a.0.table ≡ commit.0.table =
    h.none a.0 commit.0 a.1 (told.0, commit.1) (sym a.2.0 ∙ commit.2.0) (sym (ap sum_at a.2.1 ∙ announces_checksums a.0.table) ∙ piece_was.1 ∙ ap sum_at commit.2.1 ∙ announces_checksums commit.0.table) in (
      commit.0,
      subst (λ made. IsCommit made commit.0) h.tied.commits (told.0, commit.1),
      was.1 ∙ ap (λ s. Some s) (stamp_from wanted commit.0 commit.2),
      a.3 ∙ ap (λ (t : List Entry). piece_count t) tables,
      was.2,
      a.5 ∙ ap (piece number) tables,
    )

-- what is told and held agrees
agreed_is : (known : Known) (last : LastTold) (held : Version) → known.told ≡ Some last → known.held ≡ Some held → IsTrue (is_agreed known) → IsTrue (agrees (Some last.stamp) (Some held))
agreed_is known last held told holds is =
    subst (λ (t : Option Stamp). IsTrue (agrees t (Some held))) (ap (λ (o : Option LastTold). option_map (λ (t : LastTold). t.stamp) o) told)
    (subst (λ (x : Option Version). IsTrue (agrees (stamp_of known) x)) holds is)

pub agreed_are_told : AgreedAreTold
agreed_are_told queries orig mesh is place node last held found told holds agreed =
    let h = world_of queries orig mesh is in
    let log = log_of orig mesh.nodes in
    let tied = h.tied.nodes place node found in
    let t = subst (λ (o : Option LastTold). IsToldBy orig log mesh.frames o (h.world.nodes place).told) told tied.told in
    let what : Told = record { number = number_at_root orig log t.0.root; byte = last.stamp.byte; sums = last.stamp.sums } in
    let agree = (agrees_by_checksums last.stamp held).0 (agreed_is (known_by (known_at_node queries node).tables orig) last held told holds agreed) in
    let commit = agreed_hold_the_told h.world h.base h.none place what held t.3 (tied.held ∙ holds) agree in
    let one : commit.0 ≡ commit_at_root orig log t.0.root =
    numbered_one h.world.commits what.number commit.0 (commit_at_root orig log t.0.root) commit.1 (ap (commit_numbered what.number) h.tied.commits ∙ at_root orig log t.0.root) in
    record {
      frame = t.0;
      sent = t.1;
      table = commit.2 ∙ ap (λ (v : Version). v.table) one;
    }
