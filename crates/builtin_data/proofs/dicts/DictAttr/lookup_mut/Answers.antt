use Rattle.std.proofs.Common.{refl, ap}
use Rattle.std.specs.Prelude.{Some}
use Rattle.std.proofs.lemmas.Map.Text.{btree_map_updates_text}
use Rattle.builtin_data.proofs.dicts.DictAttr.lookup_mut.Goals as goal

pub returns : goal.returns
returns g c =
    let old = c.args.self.now.members in
    let key = c.args.key.now in (
      (
        refl,
        λ w there. btree_map_updates_text key old (c.get_mut.follows.lender w) (Some w) ((c.get_mut.follows.holds w).3 there),
        ap (λ members. record { members = members }) c.get_mut.follows.holds-at-none,
      ),
      c.get_mut.ensures.value,
    )
