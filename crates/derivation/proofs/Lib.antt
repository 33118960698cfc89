-- `Window` has what a rule makes of its right side over a window, `Lasting` and `MadeWords` that this is its
-- word, `DerivedWords` that the code's word is this; `CarriedOn` what is carried from window to window;
-- `Exact` when words are right, `Joined` what is joined to them, `Turn` the turn of a rule, `Fixpoint` the
-- rules of a stratum.
pub mod Window
pub mod Lasting
pub mod MadeWords
pub mod DerivedWords
pub mod CarriedOn
pub mod Exact
pub mod Joined
pub mod Turn
pub mod Fixpoint
