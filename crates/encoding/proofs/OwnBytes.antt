-- An authorization, and a rule, depends on its own bytes: what stands behind them does not matter. Assumes
-- nothing.
use mathlib.Core.Path.{◌≡◌}
use mathlib.Core.List.{List, ◌++◌}
use Prim.Native.Nat.{ℕ, ◌≤◌}
use native.Mathlib.Omega.{arith}
use lib.ListN.{length, get_or-append}
use Rattle.foundation.specs.BytesFacts.{le_own, field_own}
use Rattle.foundation.specs.Intervals.{interval}
use Rattle.foundation.specs.BitMasks.{bit}
use Rattle.model.specs.Requests.{operator_of}
use Rattle.model.specs.Encoding.{is_negative, has_option, authorization_of, option_of, rule_of}

pub authorization_own : (x y : List ℕ) → 24 ≤ length x → authorization_of (x ++ y) ≡ authorization_of x
authorization_own x y h i = record {
  head = record {
    label = le_own 2 x y (omega arith) i;
    grantor = field_own 2 2 x y (omega arith) i;
    subject = field_own 2 4 x y (omega arith) i;
    object = field_own 2 6 x y (omega arith) i;
    mode = get_or-append x y 0 8 (omega arith) i;
    negative = is_negative (get_or-append x y 0 9 (omega arith) i);
    option = has_option (get_or-append x y 0 9 (omega arith) i);
    granted = field_own 4 12 x y (omega arith) i;
  };
  interval = interval (field_own 4 16 x y (omega arith) i) (field_own 4 20 x y (omega arith) i);
}

pub rule_own : (x y : List ℕ) → 28 ≤ length x → rule_of (x ++ y) ≡ rule_of x
rule_own x y h i = record {
  label = le_own 2 x y (omega arith) i;
  author = field_own 2 2 x y (omega arith) i;
  left = record {
    subject = field_own 2 4 x y (omega arith) i;
    mode = get_or-append x y 0 14 (omega arith) i;
    object = field_own 2 6 x y (omega arith) i;
    negative = bit 0 (get_or-append x y 0 17 (omega arith) i);
  };
  operator = operator_of (get_or-append x y 0 16 (omega arith) i);
  right = record {
    subject = field_own 2 8 x y (omega arith) i;
    mode = get_or-append x y 0 15 (omega arith) i;
    object = field_own 2 10 x y (omega arith) i;
    negative = bit 1 (get_or-append x y 0 17 (omega arith) i);
  };
  grantor = field_own 2 12 x y (omega arith) i;
  option = option_of (get_or-append x y 0 17 (omega arith) i);
  interval = interval (field_own 4 20 x y (omega arith) i) (field_own 4 24 x y (omega arith) i);
}
