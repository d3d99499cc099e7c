-- The names of the definitions of this crate that other files cite, passed on from one place. Declares nothing.
pub use Rattle.link_client.specs.Calls.{Did, FitsRequest, Sends, client_datagram, client_hands, client_receives, has_more_to_send}
pub use Rattle.link_client.specs.Calls.{received_by_head, received_by_proto, received_in, is_opened, received_with, abstract_client}
pub use Rattle.link_client.specs.Client.{AbstractClient, ClientStep, ack_of, advertises_window, after_fin, client_aborts, client_again}
pub use Rattle.link_client.specs.Client.{client_closes, client_opens, fin_out, fin_sent, has_closed, has_outstanding, receives_ack}
pub use Rattle.link_client.specs.Client.{idle, is_receiving, is_reset_by, keeps, may_finish, next_own, offered, one_if, opened_by}
pub use Rattle.link_client.specs.Client.{own_fin, own_first, own_request, own_reset, steps_with, syn_of, takes_text}
unfoldable pub use Rattle.link_client.specs.Client.{aborts_by, again_by, client_takes, closes_by}
unfoldable pub use Rattle.link_client.specs.Client.{opens_by, sends_next, takes_by, takes_in_order}
pub use Rattle.link_client.specs.State.{Client}
