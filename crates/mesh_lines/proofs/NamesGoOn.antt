-- Names of nodes and LANs that are words, and go on to be: what a state has printed, and what a mesh
-- goes on with.
use Rattle.std.proofs.Common.{◌≡◌, inl, inr, ◌⊎◌, ℕ, List, [], ◌∷◌, ◌++◌, sym, ap, subst, ◌∙◌, append-nil, append_assoc}
use Rattle.mesh_base.specs.Names.{NamesGiven}
use Rattle.mesh_base.specs.declared.event.Event.{Event}
use Rattle.mesh_base.specs.declared.names.NodeName.{NodeName}
use Rattle.mesh_model.specs.Net.Mesh.{Mesh, Setup}
use Rattle.mesh_model.specs.Net.Next.{Has}
use Rattle.mesh_model.specs.Run.State.{Printed, ClaimsShown, LocalsShown, OriginatorsShown, ServiceShown, NeighborsShown, GlobalsShown, Decoded, Happened, State, names_of}
use Rattle.mesh_model.specs.Text.Claims.{name_or_dash}
use Rattle.mesh_laws.proofs.Lines.Courses.{Follows}
use Rattle.mesh_laws.proofs.Schedule.Members.{has_either, has_left}
use Rattle.mesh_laws.proofs.Schedule.Steps.{Effect, no_ticks}
use Rattle.mesh_lines.specs.ItemLines.{IsPlainTable}
use Rattle.mesh_lines.specs.LineWords.{AreNamed, IsWord}
use Rattle.mesh_tie.proofs.GainLemmas.{GainsEvents, course_gains, effect_gains}
use Rattle.mesh_lines.proofs.LogFits.{MeshFits}
use Rattle.mesh_lines.proofs.NodeNames.{IsOfName}

-- names go on with others
pub record GoOn (names all : NamesGiven) : Type 0 where
  pub more : List NodeName
  pub nodes : all.nodes ≡ names.nodes ++ more
  pub more_lans : List (List ℕ)
  pub lans : all.lans ≡ names.lans ++ more_lans

pub same_names : (names all : NamesGiven) → all ≡ names → GoOn names all
same_names names all e = record {
  more = [];
  nodes = ap (λ (n : NamesGiven). n.nodes) e ∙ sym (append-nil names.nodes);
  more_lans = [];
  lans = ap (λ (n : NamesGiven). n.lans) e ∙ sym (append-nil names.lans);
}

pub names_further : (a b c : NamesGiven) → GoOn a b → GoOn b c → GoOn a c
names_further a b c p q = record {
  more = p.more ++ q.more;
  nodes = q.nodes ∙ ap (λ ns. ns ++ q.more) p.nodes ∙ append_assoc a.nodes p.more q.more;
  more_lans = p.more_lans ++ q.more_lans;
  lans = q.lans ∙ ap (λ ns. ns ++ q.more_lans) p.lans ∙ append_assoc a.lans p.more_lans q.more_lans;
}

pub front_named : (names all : NamesGiven) → GoOn names all → AreNamed all → AreNamed names
front_named names all g named = record {
  nodes = λ one has. named.nodes one (subst (λ ns. Has ns one) (sym g.nodes) (has_left names.nodes g.more one has));
  lans = λ one has. named.lans one (subst (λ ns. Has ns one) (sym g.lans) (has_left names.lans g.more_lans one has));
}

-- what holds of each still does with one more
pub one_more : {X : Type 0} (P : X → Type 0) (xs : List X) (x : X) → ((one : X) → Has xs one → P one) → P x → (one : X) → Has (xs ++ x ∷ []) one → P one
one_more P xs x old new one has = go (has_either xs (x ∷ []) one has)
  where
    go : Has xs one ⊎ Has (x ∷ []) one → P one
    go (inl before) = old one before
    go (inr (inl same)) = subst P (sym same) new
    go (inr (inr none)) = absurd none

-- what is printed has words for names, and facts without newlines; an event is one of those that there are, and its names go on
-- to those that there are
abbrev pub HasNames : NamesGiven → List Event → Printed → Type 0
HasNames all events (LocalsShown table) = IsWord table.name
HasNames all events (OriginatorsShown table) = IsWord table.name
HasNames all events (NeighborsShown table) = IsWord table.name
HasNames all events (GlobalsShown table) = IsWord table.name
HasNames all events (ClaimsShown table) = IsWord table.name × IsWord (name_or_dash table.lan)
HasNames all events (ServiceShown table) = IsPlainTable table
HasNames all events (Decoded bytes) = Unit {0}
HasNames all events (Happened names event) = GoOn names all × IsOfName names.nodes event × Has events event

-- so it is of a state
pub record IsNamed (state : State) : Type 0 where
  pub named : AreNamed (names_of state.mesh)
  pub printed : (item : Printed) → Has state.printed item → HasNames (names_of state.mesh) state.mesh.events item
  pub fits : MeshFits state.mesh

pub names_grow : (names all : NamesGiven) (events new : List Event) (item : Printed) → GoOn names all → HasNames names events item → HasNames all (events ++ new) item
names_grow names all events new (LocalsShown table) g has = has
names_grow names all events new (OriginatorsShown table) g has = has
names_grow names all events new (NeighborsShown table) g has = has
names_grow names all events new (GlobalsShown table) g has = has
names_grow names all events new (ClaimsShown table) g has = has
names_grow names all events new (ServiceShown table) g has = has
names_grow names all events new (Decoded bytes) g has = has
names_grow names all events new (Happened own event) g has = (names_further own names all has.0 g, has.1, has_left events new event has.2)

-- ---- what happens
-- a mesh goes on with events, names and texts
pub record Passes (mesh after : Mesh) : Type 0 where
  pub gains : GainsEvents mesh after
  pub names : GoOn (names_of mesh) (names_of after)
  pub named : AreNamed (names_of mesh) → AreNamed (names_of after)
  pub fits : MeshFits mesh → MeshFits after

pub follows_passes : (mesh after : Mesh) → Follows mesh after → (MeshFits mesh → MeshFits after) → Passes mesh after
follows_passes mesh after f fits = record { gains = course_gains mesh after f; names = same_names (names_of mesh) (names_of after) f.names; named = subst AreNamed (sym f.names); fits = fits }

pub effect_passes : (setup : Setup) (now : ℕ) (mesh after : Mesh) → Effect setup no_ticks now mesh after → (MeshFits mesh → MeshFits after) → Passes mesh after
effect_passes setup now mesh after effect fits = record { gains = effect_gains setup now mesh after effect; names = same_names (names_of mesh) (names_of after) effect.names; named = subst AreNamed (sym effect.names); fits = fits }
