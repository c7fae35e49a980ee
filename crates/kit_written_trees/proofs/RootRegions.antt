-- A kind of `kit` whose operations say regions is isolated.
use Rattle.std.proofs.Common.{◌≡◌, ◌∙◌, ℕ, ◌<◌, Bool, true, false, List, [], ◌∷◌, Option, Some, None, slice_get, option_map, refl, sym, subst, ap, arith}
use Rattle.std.proofs.lemmas.Option.{slice_get-map}
use Rattle.ir_forest.specs.Closed.{regions_said}
use Rattle.ir_names.specs.Tree.{node, no_tree, a_tree}
use Rattle.ir_names.specs.declared.interfaces.OpInterface.TheVariants.{IsolatedFromAbove}
use Rattle.ir_print.specs.Formats.{Formats, Kind, Step, a_region}
use Rattle.ir_print.specs.Pieces.{Piece, region, Pieces, Values}
use Rattle.ir_print.specs.Shapes.{parts_in, Fits, FitAll}
use Rattle.kit.specs.Forms.{formats, op_kind, read_ops}
use Rattle.kit.specs.Says.{values}
use Rattle.kit_language.specs.Language.{kit_language}
use Rattle.kit_ops.specs.Table.{has_interface}
use Rattle.kit_ops.specs.declared.kinds.KitOp.{KitOp}
use Rattle.kit_ops.specs.declared.kinds.KitOp.TheVariants as ops

-- whether one of the steps is a region
abbrev has_region : List Step → Bool
has_region [] = false
has_region (a_region ∷ ss) = true
has_region (s ∷ ss) = has_region ss

rest_none : (s : Step) (ss : List Step) → has_region (s ∷ ss) ≡ false → has_region ss ≡ false
rest_none a_region ss e = let wrong : true ≡ false = e in cc
rest_none _ ss e = e

-- where none is, no region is said
none_said : (f : Formats) (v : Values) (ss : List Step) (ps : Pieces) → has_region ss ≡ false → FitAll f v ss ps → regions_said ps ≡ 0
none_said f v [] no_tree e h = refl
none_said f v [] (a_tree t ps) e h = absurd h
none_said f v (s ∷ ss) no_tree e h = absurd h
none_said f v (s ∷ ss) (a_tree (node x ts) ps) e h = go x h.0 (none_said f v ss ps (rest_none s ss e) h.1)
  where
    go : (x : Piece) → Fits f v s (node x ts) → regions_said ps ≡ 0 → regions_said (a_tree (node x ts) ps) ≡ 0
    go region is none = let wrong : true ≡ false = sym (ap (λ z. has_region (z ∷ ss)) is) ∙ e in cc
    go _ is none = none

isolated_kind : (kind : KitOp) → has_region (parts_in (op_kind kind).format) ≡ true → has_interface kind IsolatedFromAbove ≡ true
isolated_kind ops.Module e = refl
isolated_kind ops.Func e = refl
isolated_kind _ e = let wrong : false ≡ true = e in cc

pub said_isolated : (n : ℕ) (k : Kind) (ps : Pieces) → slice_get formats.operations n ≡ Some k → FitAll formats values (parts_in k.format) ps → 0 < regions_said ps
    → kit_language.isolated n ≡ true
said_isolated n k ps at fits some = go (slice_get read_ops n) refl
  where
    known : (kind : KitOp) → k ≡ op_kind kind → has_interface kind IsolatedFromAbove ≡ true
    known kind is = by (has_region (parts_in (op_kind kind).format)) refl
      where
        by : (b : Bool) → has_region (parts_in (op_kind kind).format) ≡ b → has_interface kind IsolatedFromAbove ≡ true
        by true e = isolated_kind kind e
        by false e =
            let none : regions_said ps ≡ 0
            = none_said formats values (parts_in (op_kind kind).format) ps e (subst (λ j. FitAll formats values (parts_in j.format) ps) is fits) in
            absurd (omega arith)

    go : (o : Option KitOp) → slice_get read_ops n ≡ o → kit_language.isolated n ≡ true
    go None e =
        let wrong : Some k ≡ None = sym at ∙ (slice_get-map op_kind read_ops n ∙ ap (option_map op_kind) e) in cc
    go (Some kind) e =
        let found : Some k ≡ Some (op_kind kind) = sym at ∙ (slice_get-map op_kind read_ops n ∙ ap (option_map op_kind) e) in
        rw e (known kind (let same : k ≡ op_kind kind = cc in same))
