-- Registers (paper 01, "Sheets"): a tag (stamp, desk), compared stamp first, and a value.
use Rattle.std.specs.Prelude.{◌≤◌, Bool, true, false, cond, eqb, ltb, leb}
use Rattle.config.specs.Cluster.{most_stamp}
use Rattle.config.specs.declared.cluster.Config.{Config}
use Rattle.replica.specs.declared.register.Register.{Register}
use Rattle.replica.specs.declared.register.Tag.{Tag}
use Rattle.replica.specs.Values.{empty_value, value_fits, same, trimmed as trimmed_value, Typed as TypedValue}

-- the start: tag (0, 0), value empty
abbrev pub start_register : Register
start_register = record { stamp = 0; desk = 0; value = empty_value }

-- whether a register is the start, whatever lies past its value's bytes
unfoldable pub is_start : Register → Bool
is_start r = cond (eqb r.stamp 0) (cond (eqb r.desk 0) (eqb r.value.length 0) false) false

-- Whether a register may be held, written and sent (paper 01, "Message bytes", bit 4: "stamp 4, desk 2, both from 1, length 1, value; absent exactly at
-- the start"): the one test of a register, for records and messages alike.
unfoldable pub register_fits : Config → Register → Bool
register_fits c r =
    cond (is_start r) true
    (cond (leb 1 r.stamp) (cond (leb r.stamp (most_stamp c)) (cond (leb 1 r.desk) (value_fits r.value) false) false) false)

-- the tag
abbrev pub tag_of : Register → Tag
tag_of r = record { stamp = r.stamp; desk = r.desk }

-- whether the tag of a is below that of b
unfoldable pub below : Register → Register → Bool
below a b = cond (ltb a.stamp b.stamp) true (cond (eqb a.stamp b.stamp) (ltb a.desk b.desk) false)

-- the one with the higher tag
unfoldable pub higher : Register → Register → Register
higher a b = cond (below a b) b a

-- equal tags need equal values
unfoldable pub agree : Register → Register → Bool
agree a b = cond (eqb a.stamp b.stamp) (cond (eqb a.desk b.desk) (same a.value b.value) true) true

-- the same register with zeros after the bytes of its value
abbrev pub trimmed : Register → Register
trimmed r = record { stamp = r.stamp; desk = r.desk; value = trimmed_value r.value }

-- A register that a call can have.
pub record Typed (r : Register) : Type 0 where
  pub stamp-fits : r.stamp ≤ 4294967295
  pub desk-fits : r.desk ≤ 65535
  pub value-typed : TypedValue r.value
