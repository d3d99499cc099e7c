-- The names of the definitions of this crate that other files cite, passed on from one place. Declares nothing.
pub use Rattle.icmp_echo.specs.Echo.{answered, echo_fate, echo_message, echo_reply, fate_in}
