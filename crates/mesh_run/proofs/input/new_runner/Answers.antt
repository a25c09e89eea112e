use Rattle.std.proofs.Common.{[], refl, sym, subst}
use Rattle.std.proofs.KnownBytes.{Appends-nil}
use Rattle.std.specs.Io.KnownBytes.{Appends}
use Rattle.mesh_laws.specs.Cuts.{IsUnbroken}
use Rattle.mesh_run.proofs.KindLemmas.{first_text}
use Rattle.mesh_run.proofs.input.new_runner.Goals as goal

pub returns-clause-stands : goal.returns-clause-stands
returns-clause-stands c = λ base.
    let empty = c.new-2.ensures.items in
    record {
      lines = [];
      cut = record { whole = tt; unbroken = subst IsUnbroken (sym empty) tt; bytes_are = sym empty };
      going = refl;
      at = record { scene_is = c.new.ensures.stands; printed = subst (Appends base base) (sym (first_text c.args.kind)) (Appends-nil base) };
      lines_are = refl;
      taken = refl;
    }
