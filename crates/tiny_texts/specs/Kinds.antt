-- What kinds are called, and which interfaces they implement.
use Rattle.std.specs.Prelude.{ℕ, Bool, true, false, List, codes}
use Rattle.ir_names.specs.declared.interfaces.OpInterface.{OpInterface}
use Rattle.ir_names.specs.declared.interfaces.OpInterface.TheVariants as interface
use Rattle.tiny_texts.specs.declared.dialect.TinyOp.{TinyOp}
use Rattle.tiny_texts.specs.declared.dialect.TinyOp.TheVariants as ops
use Rattle.tiny_texts.specs.declared.dialect.Single.{Single}
use Rattle.tiny_texts.specs.declared.dialect.TinyAttr.{TinyAttr}
use Rattle.tiny_texts.specs.declared.dialect.TinyAttr.TheVariants as attrs
use Rattle.tiny_texts.specs.declared.dialect.Constant.{Constant}
use Rattle.tiny_texts.specs.declared.dialect.Constant.TheVariants as constants

-- the names of kinds of operations: no two have the same sum of characters
abbrev pub op_name : TinyOp → List ℕ
op_name ops.Box = codes "box"
op_name ops.Loop = codes "loop"
op_name ops.Pure = codes "pure"
op_name ops.Def = codes "def"
op_name ops.Id = codes "id"
op_name ops.Use = codes "use"
op_name ops.Br = codes "br"
op_name ops.Ret = codes "ret"

-- the names of the dialect and of the kind
abbrev pub op_names : TinyOp → List ℕ × List ℕ
op_names kind = (codes "t", op_name kind)

abbrev pub type_names : Single → List ℕ × List ℕ
type_names kind = (codes "t", codes "int")

-- the names of kinds of attributes
abbrev pub attr_name : TinyAttr → List ℕ
attr_name attrs.Num = codes "num"
attr_name attrs.Ref = codes "ref"

abbrev pub attr_names : TinyAttr → List ℕ × List ℕ
attr_names kind = (codes "t", attr_name kind)

-- the kind of an attribute
abbrev pub kind_of : Constant → TinyAttr
kind_of (constants.Num n) = attrs.Num
kind_of (constants.Ref n) = attrs.Ref

-- boxes are isolated, and edges and returns end blocks
abbrev pub op_has : TinyOp → OpInterface → Bool
op_has ops.Box interface.IsolatedFromAbove = true
op_has ops.Br interface.IsTerminator = true
op_has ops.Br interface.Branch = true
op_has ops.Ret interface.IsTerminator = true
op_has kind i = false
