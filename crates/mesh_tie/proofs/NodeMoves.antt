-- What a node knows of an originator changes as the machine's moves do.
use Rattle.std.proofs.Common.{◌≡◌, ◌≢◌, ◌⊎◌, inl, inr, ◌≤◌, ◌-◌, ℕ, false, cond, ◌==◌, List, [], ◌∷◌, slice_get, Option, Some, None, is_some, Ok, refl, sym, ap, ap₂, subst, ◌∙◌, arith}
use Rattle.std.proofs.lemmas.Bool.{eq-eqb}
use Rattle.std.proofs.lemmas.List.{append-nil}
use Rattle.mesh_base.specs.declared.address.Mac.{Mac}
use Rattle.mesh_base.specs.declared.client.Entry.{Entry}
use Rattle.mesh_model.specs.declared.table_change.Change.{Change}
use Rattle.mesh_model.specs.declared.table_outcome.Heard.TheVariants.{Emptied, Applied}
use Rattle.mesh_model.specs.declared.table_outcome.Taken.TheVariants.{Taken as IsTaken}
use Rattle.mesh_model.specs.Clients.Log.{Log}
use Rattle.mesh_model.specs.Net.Due.{ticks_in}
use Rattle.mesh_model.specs.Net.Mesh.{SentFrame}
use Rattle.mesh_model.specs.Packets.Bodies.{VlanSum}
use Rattle.mesh_model.specs.Tables.Gathered.{Gathered, with_table_part}
use Rattle.mesh_model.specs.Tables.Judging.{Carried, InFull, InPart, InChanges, announcement_row, answer_row}
use Rattle.mesh_model.specs.Tables.Known.{Known, LastTold, announced, answered, gathered_after, held_after, kept_under, nothing, stamp_of}
use Rattle.mesh_model.specs.Tables.Strict.{apply_strictly}
use Rattle.mesh_model.specs.Tables.Sums.{checksums, sum_at}
use Rattle.mesh_model.specs.Tables.Versions.{Stamp, Version, next_byte}
use Rattle.mesh_laws.specs.KnownLaws.{LeadsOn}
use Rattle.mesh_laws.specs.Machine.Moves.{Move, PieceWasSaid, is_told, takes_changes, takes_full, drops, Reaches, no_move, then_move, WereOffered, agreed_node, held_when_told}
use Rattle.mesh_laws.specs.Machine.Pieces.{put_together}
use Rattle.mesh_laws.specs.Machine.World.{Announcement, Differences, Node, Piece, Saying, Told, World, WasSaid, silent_node, with_node}
use Rattle.mesh_laws.proofs.GatheredLemmas.{counted_with}
use Rattle.mesh_laws.proofs.HeldLemmas.{another_heard, another_taken}
use Rattle.mesh_laws.proofs.KnownLemmas.{applied_onward, changes_as_heard, changes_as_taken, emptied_by_none, taken_in_parts, taken_onward, taken_whole}
use Rattle.mesh_tie.specs.Originators.{number_at_root}
use Rattle.mesh_tie.specs.Sayings.{saying_of}
use Rattle.mesh_tie.specs.Tie.{GatheredWereSaid, IsToldBy, NodeIsTied}
use Rattle.mesh_tie.proofs.GatheredSaid.{answered_said, beside_said, each_said, gathered_piece, good_below, kept_said, none_said}

-- ---- moves that change one node alone
pub record At (w : World) (m : ℕ) (node : Node) : Type 0 where
  pub world : World
  pub path : Reaches w world
  pub commits : world.commits ≡ w.commits
  pub said : world.said ≡ w.said
  pub at : world.nodes m ≡ node
  pub others : (k : ℕ) → (k == m) ≡ false → world.nodes k ≡ w.nodes k

pub at_same : (w : World) (m : ℕ) (node : Node) → w.nodes m ≡ node → At w m node
at_same w m node is = record { world = w; path = no_move w; commits = refl; said = refl; at = is; others = λ k other. refl }

at_next : (w : World) (m : ℕ) (node next : Node) (a : At w m node) → Move a.world (with_node m next a.world) → At w m next
at_next w m node next a move = record {
  world = with_node m next a.world;
  path = then_move w a.world (with_node m next a.world) a.path move;
  commits = a.commits;
  said = a.said;
  at = ap (λ b. cond b next (a.world.nodes m)) (eq-eqb m m refl);
  others = λ k other. ap (λ b. cond b next (a.world.nodes k)) other ∙ a.others k other;
}

pub record Comes (orig : Mac) (log : Log) (frames : List SentFrame) (w : World) (m : ℕ) (known : Known) : Type 0 where
  pub node : Node
  pub moved : At w m node
  pub tied : NodeIsTied orig log frames w.said known node

-- ---- a life that begins
pub forgets : (orig : Mac) (log : Log) (frames : List SentFrame) (w : World) (m : ℕ) (known : Known) → Comes orig log frames w m known → Comes orig log frames w m nothing
forgets orig log frames w m known c = record {
  node = silent_node;
  moved = at_next w m c.node silent_node c.moved (drops c.moved.world m);
  tied = record { held = refl; told = refl; gathered = none_said w.said None };
}

-- ---- changes that lead on
leads : (w : World) (m : ℕ) (node : Node) (told : Told) (held : Version) (sums : List VlanSum) (changes : List Change) (table : List Entry) → At w m node
    → node.told ≡ Some told → node.held ≡ Some held → WereOffered w.said told.byte sums changes → sum_at sums ≡ sum_at told.sums
    → told.byte ≡ next_byte held.byte → apply_strictly held.table changes ≡ Ok table → checksums table ≡ sum_at told.sums → At w m (agreed_node told table)
leads w m node told held sums changes table a t h offered carried next strict result =
    at_next w m node (agreed_node told table) a (takes_changes a.world m told held sums changes table
    (ap (λ (n : Node). n.told) a.at ∙ t) (ap (λ (n : Node). n.held) a.at ∙ h) (subst (λ s. WereOffered s told.byte sums changes) (sym a.said) offered) carried next strict result)

-- ---- announcements
-- a node is told what was announced
told_now : (w : World) (m : ℕ) (node : Node) (number byte : ℕ) (sums : List VlanSum) (changes : List Change) → At w m node → WasSaid w.said (Announcement number byte sums changes)
    → At w m (record { told = Some (record { number = number; byte = byte; sums = sums }); held = held_when_told byte sums node.held })
told_now w m node number byte sums changes a said =
    subst (λ h. At w m (record { told = Some (record { number = number; byte = byte; sums = sums }); held = held_when_told byte sums h })) (ap (λ (n : Node). n.held) a.at)
    (at_next w m node (record { told = Some (record { number = number; byte = byte; sums = sums }); held = held_when_told byte sums (a.world.nodes m).held }) a
    (is_told a.world m number byte sums changes (subst (λ s. WasSaid s (Announcement number byte sums changes)) (sym a.said) said)))

-- the frame that brought an announcement was sent, and it is of the commit of its root
pub record IsBrought (orig : Mac) (log : Log) (frames : List SentFrame) (said : List Saying) (number : ℕ) (stamp : Stamp) (changes : List Change) : Type 0 where
  pub frame : SentFrame
  pub sent : slice_get frames (number - 1) ≡ Some frame
  pub past : frame.root ≤ ticks_in log
  pub was_said : WasSaid said (Announcement (number_at_root orig log frame.root) stamp.byte stamp.sums changes)

told_tied : (orig : Mac) (log : Log) (frames : List SentFrame) (said : List Saying) (number byte : ℕ) (sums : List VlanSum) (changes : List Change) (b : IsBrought orig log frames said number (record { byte = byte; sums = sums }) changes)
    → IsToldBy orig log frames (Some (record { frame = number; stamp = record { byte = byte; sums = sums } })) (Some (record { number = number_at_root orig log b.frame.root; byte = byte; sums = sums }))
told_tied orig log frames said number byte sums changes b = (b.frame, b.sent, b.past, refl)

some_one : {X : Type 0} (x y : X) → Some x ≡ Some y → x ≡ y
some_one x y e = cc

tells_named : (orig : Mac) (log : Log) (frames : List SentFrame) (w : World) (m : ℕ) (known : Known) (number byte : ℕ) (first : VlanSum) (others : List VlanSum) (changes : List Change) (table : Option (List Entry))
    → (announcement_row known.held (record { byte = byte; sums = first ∷ others }) changes).table ≡ table
    → Comes orig log frames w m known → IsBrought orig log frames w.said number (record { byte = byte; sums = first ∷ others }) changes
    → Comes orig log frames w m (record { told = Some (record { frame = number; stamp = record { byte = byte; sums = first ∷ others } }); held = held_after byte table known.held; gathered = kept_under (stamp_of known) (record { byte = byte; sums = first ∷ others }) known.gathered })
tells_named orig log frames w m known number byte first others changes None is c b =
    let told : Told = record { number = number_at_root orig log b.frame.root; byte = byte; sums = first ∷ others } in
    record {
      node = record { told = Some told; held = c.node.held };
      moved = told_now w m c.node told.number byte (first ∷ others) changes c.moved b.was_said;
      tied = record { held = c.tied.held; told = told_tied orig log frames w.said number byte (first ∷ others) changes b; gathered = kept_said w.said (stamp_of known) (record { byte = byte; sums = first ∷ others }) known.gathered c.tied.gathered };
    }
tells_named orig log frames w m known number byte first others changes (Some table) is c b =
    go (another_heard (announcement_row known.held stamp changes).outcome (sym (changes_as_heard known.held stamp changes) ∙ ap is_some is))
  where
    stamp : Stamp
    stamp = record { byte = byte; sums = first ∷ others }

    told : Told
    told = record { number = number_at_root orig log b.frame.root; byte = byte; sums = first ∷ others }

    taken : (l : LeadsOn known.held stamp changes (announcement_row known.held stamp changes).table) → changes ≢ [] → At w m (agreed_node told l.after)
    taken l some = leads w m (record { told = Some told; held = c.node.held }) told l.before (first ∷ others) changes l.after
        (told_now w m c.node told.number byte (first ∷ others) changes c.moved b.was_said) refl (c.tied.held ∙ l.held_is)
        (inl (told.number, b.was_said, some)) refl l.byte_is l.applied l.sums_are

    go : ((announcement_row known.held stamp changes).outcome ≡ Emptied) ⊎ ((announcement_row known.held stamp changes).outcome ≡ Applied)
        → Comes orig log frames w m (record { told = Some (record { frame = number; stamp = stamp }); held = held_after byte (Some table) known.held; gathered = kept_under (stamp_of known) stamp known.gathered })
    go (inl emptied) = absurd (let none : first ∷ others ≡ [] = (emptied_by_none known.held stamp changes emptied).0 in cc)
    go (inr applied) =
        let led = applied_onward known.held stamp changes applied in
        let same : led.1.after ≡ table = some_one led.1.after table (sym led.1.table_is ∙ is) in
        record {
          node = agreed_node told led.1.after;
          moved = taken led.1 led.0;
          tied = record { held = ap (λ t. Some (record { byte = byte; table = t })) same; told = told_tied orig log frames w.said number byte (first ∷ others) changes b; gathered = kept_said w.said (stamp_of known) stamp known.gathered c.tied.gathered };
        }

tells_by : (orig : Mac) (log : Log) (frames : List SentFrame) (w : World) (m : ℕ) (known : Known) (number byte : ℕ) (sums : List VlanSum) (changes : List Change)
    → Comes orig log frames w m known → IsBrought orig log frames w.said number (record { byte = byte; sums = sums }) changes
    → Comes orig log frames w m (announced number (record { byte = byte; sums = sums }) changes known)
tells_by orig log frames w m known number byte [] changes c b =
    let told : Told = record { number = number_at_root orig log b.frame.root; byte = byte; sums = [] } in
    record {
      node = record { told = Some told; held = held_when_told byte [] c.node.held };
      moved = told_now w m c.node told.number byte [] changes c.moved b.was_said;
      tied = record { held = refl; told = told_tied orig log frames w.said number byte [] changes b; gathered = kept_said w.said (stamp_of known) (record { byte = byte; sums = [] }) known.gathered c.tied.gathered };
    }
tells_by orig log frames w m known number byte (first ∷ others) changes c b =
    tells_named orig log frames w m known number byte first others changes (announcement_row known.held (record { byte = byte; sums = first ∷ others }) changes).table refl c b

-- an announcement is taken
pub tells : (orig : Mac) (log : Log) (frames : List SentFrame) (w : World) (m : ℕ) (known : Known) (number : ℕ) (stamp : Stamp) (changes : List Change)
    → Comes orig log frames w m known → IsBrought orig log frames w.said number stamp changes → Comes orig log frames w m (announced number stamp changes known)
tells orig log frames w m known number stamp changes c b = tells_by orig log frames w m known number stamp.byte stamp.sums changes c b

-- ---- answers
-- what the world's node was told, where this is what was told
record WasTold (node : Node) (stamp : Stamp) : Type 0 where
  told : Told
  is : node.told ≡ Some told
  byte : told.byte ≡ stamp.byte
  sums : told.sums ≡ stamp.sums

was_told : (orig : Mac) (log : Log) (frames : List SentFrame) (last : Option LastTold) (node : Node) (wanted : Stamp) → IsToldBy orig log frames last node.told → Rattle.std.specs.Prelude.option_map (λ (t : LastTold). t.stamp) last ≡ Some wanted → WasTold node wanted
was_told orig log frames None node wanted tied is = absurd cc
was_told orig log frames (Some last) node wanted tied is =
    let same : last.stamp ≡ wanted = cc in
    record {
      told = record { number = number_at_root orig log tied.0.root; byte = last.stamp.byte; sums = last.stamp.sums };
      is = tied.3;
      byte = ap (λ (s : Stamp). s.byte) same;
      sums = ap (λ (s : Stamp). s.sums) same;
    }

-- one piece, put together, is its records
one_piece : (records : List Change) (pieces : ℕ → List Change) → pieces 0 ≡ records → put_together 1 pieces ≡ records
one_piece records pieces is = append-nil (pieces 0) ∙ is

-- what an answer that is taken leaves
record Took (w : World) (m : ℕ) (node : Node) (stamp : Stamp) (table : Option (List Entry)) : Type 0 where
  told : Told
  after : List Entry
  moved : At w m (agreed_node told after)
  was : node.told ≡ Some told
  byte : told.byte ≡ stamp.byte
  table_is : table ≡ Some after

took : (orig : Mac) (log : Log) (frames : List SentFrame) (w : World) (m : ℕ) (known : Known) (stamp : Stamp) (carried : Carried) (c : Comes orig log frames w m known)
    → WasSaid w.said (saying_of stamp carried) → (answer_row (stamp_of known) known.held known.gathered stamp carried).outcome ≡ IsTaken
    → Took w m c.node stamp (answer_row (stamp_of known) known.held known.gathered stamp carried).table
took orig log frames w m known stamp (InChanges records) c said is =
    let t = taken_onward (stamp_of known) known.held known.gathered stamp records is in
    let node = was_told orig log frames known.told c.node t.0 c.tied.told t.1.told_is in
    let l = t.2 in
    record {
      told = node.told;
      after = l.after;
      moved = leads w m c.node node.told l.before stamp.sums records l.after c.moved node.is (c.tied.held ∙ l.held_is)
          (inr (subst (λ b. WasSaid w.said (Differences b stamp.sums records)) (sym (node.byte ∙ t.1.byte_is)) said))
          (sym t.1.sums_are ∙ ap sum_at (sym node.sums)) (node.byte ∙ l.byte_is) l.applied (l.sums_are ∙ ap sum_at (sym node.sums));
      was = node.is;
      byte = node.byte ∙ t.1.byte_is;
      table_is = l.table_is;
    }
took orig log frames w m known stamp (InFull records) c said is =
    let t = taken_whole (stamp_of known) known.held known.gathered stamp records is in
    let node = was_told orig log frames known.told c.node t.0 c.tied.told t.1.told_is in
    let whole = t.2 in
    record {
      told = node.told;
      after = whole.whole;
      moved = at_next w m c.node (agreed_node node.told whole.whole) c.moved (takes_full c.moved.world m node.told 1 (λ place. records) whole.whole
          (ap (λ (n : Node). n.told) c.moved.at ∙ node.is) (omega arith)
          (λ place below. (
            stamp.sums,
            sym t.1.sums_are ∙ ap sum_at (sym node.sums),
            subst (λ p. WasSaid c.moved.world.said (Piece node.told.byte stamp.sums p 1 records)) (let zero_is : 0 ≡ place = omega (arith, below) in zero_is)
                (subst (λ s. WasSaid s (Piece node.told.byte stamp.sums 0 1 records)) (sym c.moved.said)
                (subst (λ b. WasSaid w.said (Piece b stamp.sums 0 1 records)) (sym (node.byte ∙ t.1.byte_is)) said)),
          ))
          (ap (apply_strictly []) (one_piece records (λ place. records) refl) ∙ whole.applied) (whole.sums_are ∙ ap sum_at (sym node.sums)));
      was = node.is;
      byte = node.byte ∙ t.1.byte_is;
      table_is = whole.table_is;
    }
took orig log frames w m known stamp (InPart number count records) c said is =
    let t = taken_in_parts (stamp_of known) known.held known.gathered stamp number count records is in
    let come = t.1 in
    let gone : Gathered = with_table_part number count records known.gathered in
    let below = good_below number count t.0 in
    let counted = counted_with number count records known.gathered in
    let node = was_told orig log frames known.told c.node come.wanted c.tied.told come.is_told.told_is in
    let were : GatheredWereSaid w.said (stamp_of known) gone =
    beside_said w.said (stamp_of known) known.gathered c.tied.gathered come.wanted stamp number count records come.is_told.told_is come.is_told.byte_is come.is_told.sums_are below said in
    let whole = come.make in
    record {
      told = node.told;
      after = whole.whole;
      moved = at_next w m c.node (agreed_node node.told whole.whole) c.moved (takes_full c.moved.world m node.told gone.count (gathered_piece gone) whole.whole
          (ap (λ (n : Node). n.told) c.moved.at ∙ node.is) (omega (arith, below, counted))
          (λ place lt. subst (λ s. PieceWasSaid s node.told.byte (sum_at node.told.sums) place gone.count (gathered_piece gone place)) (sym c.moved.said)
          (subst (λ b. PieceWasSaid w.said b (sum_at node.told.sums) place gone.count (gathered_piece gone place)) (sym node.byte)
          (subst (λ ss. PieceWasSaid w.said come.wanted.byte (sum_at ss) place gone.count (gathered_piece gone place)) (sym node.sums)
          (each_said w.said (stamp_of known) gone were come.complete come.wanted come.is_told.told_is place lt))))
          whole.applied (whole.sums_are ∙ ap sum_at (sym node.sums)));
      was = node.is;
      byte = node.byte ∙ come.is_told.byte_is;
      table_is = whole.table_is;
    }

-- an answer is taken, or leaves all as it is
pub answers_come : (orig : Mac) (log : Log) (frames : List SentFrame) (w : World) (m : ℕ) (known : Known) (stamp : Stamp) (carried : Carried)
    → Comes orig log frames w m known → WasSaid w.said (saying_of stamp carried) → Comes orig log frames w m (answered stamp carried known)
answers_come orig log frames w m known stamp carried c said = go (answer_row (stamp_of known) known.held known.gathered stamp carried).table refl
  where
    gathered : Gathered
    gathered = gathered_after (stamp_of known) stamp carried known.gathered

    were : GatheredWereSaid w.said (stamp_of known) gathered
    were = answered_said w.said (stamp_of known) stamp carried known.gathered c.tied.gathered said

    taken : (table : List Entry) → (answer_row (stamp_of known) known.held known.gathered stamp carried).table ≡ Some table
        → Took w m c.node stamp (answer_row (stamp_of known) known.held known.gathered stamp carried).table
        → Comes orig log frames w m (record { told = known.told; held = Some (record { byte = stamp.byte; table = table }); gathered = gathered })
    taken table is t =
        let same : t.after ≡ table = some_one t.after table (sym t.table_is ∙ is) in
        record {
          node = agreed_node t.told t.after;
          moved = t.moved;
          tied = record { held = ap₂ (λ b x. Some (record { byte = b; table = x })) t.byte same; told = subst (IsToldBy orig log frames known.told) t.was c.tied.told; gathered = were };
        }

    go : (table : Option (List Entry)) → (answer_row (stamp_of known) known.held known.gathered stamp carried).table ≡ table
        → Comes orig log frames w m (record { told = known.told; held = held_after stamp.byte table known.held; gathered = gathered })
    go None is = record { node = c.node; moved = c.moved; tied = record { held = c.tied.held; told = c.tied.told; gathered = were } }
    go (Some table) is = taken table is (took orig log frames w m known stamp carried c said
        (another_taken (answer_row (stamp_of known) known.held known.gathered stamp carried).outcome (sym (changes_as_taken (stamp_of known) known.held known.gathered stamp carried) ∙ ap is_some is)))
