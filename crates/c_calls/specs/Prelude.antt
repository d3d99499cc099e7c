-- The names of the definitions of this crate that other files cite, passed on from one place. Declares nothing.
pub use Rattle.c_calls.specs.ConstantValues.{ConstantValues}
pub use Rattle.c_calls.specs.Handles.{ClosesHandle, DropsOr, HasDevice, HasOne, StillHas}
pub use Rattle.c_calls.specs.Results.{IsCallStatus, IsLinkStatus, IsTextStatus, IsWriteStatus, ReadsConnection, Refused, closed_status}
pub use Rattle.c_calls.specs.Results.{flag_of, guard_count, left_flag}
