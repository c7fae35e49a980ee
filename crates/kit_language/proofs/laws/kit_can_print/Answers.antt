use Rattle.std.proofs.Common.{refl}
use Rattle.kit.specs.Leads.{leads}
use Rattle.kit_language.proofs.Canonical.{canonical_flat, canonical_bare}
use Rattle.kit_language.proofs.laws.kit_can_print.Goals as goal

pub returns : goal.returns
returns c = record {
  leads = leads;
  ordered = refl;
  printable = refl;
  outer = refl;
  depth = canonical_flat;
  bare = canonical_bare;
}
