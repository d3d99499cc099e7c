-- The names of the definitions of this crate that other files cite, passed on from one place. Declares nothing.
pub use Rattle.web_pages.specs.Claims.{DecisionStays, IsAtMostGreatest, IsAtMostGreatestBy, IsMadeOfBytes}
pub use Rattle.web_pages.specs.Claims.{IsMadeOfBytesBy, KeepsPageLaws, KeepsPageLawsBy, UpgradeKeepsPages}
pub use Rattle.web_pages.specs.ConstantValues.{ConstantValues}
pub use Rattle.web_pages.specs.Lemmas.Deciding.{after_more, by_tests, decided_by_target, ended_more, method_open, more_by}
pub use Rattle.web_pages.specs.Lemmas.Deciding.{name_stays, other_method, refused_stays, target_open, word_more}
pub use Rattle.web_pages.specs.Lemmas.Growing.{made_end, made_first, page_grows, page_stays, silent_end}
pub use Rattle.web_pages.specs.Lemmas.Growing.{silent_text, stopped_end, stopped_text, text_grows}
pub use Rattle.web_pages.specs.Lemmas.WebLaws.{may_want, newdata_grows, web_lawful, web_starts, with_capture}
pub use Rattle.web_pages.specs.Pages.{hits_of, is_page_whole, is_whole_by, made_by, made_text, page, page_by, page_for, page_for_by}
pub use Rattle.web_pages.specs.Pages.{page_text, pages_by, pages_of, place_of, reach_by, reach_end, text_by, whole_for, whole_for_by}
pub use Rattle.web_pages.specs.Pieces.{ScriptPiece, body_by, body_of, bytes_or, found_head, found_reply_by, kind_line, missing_head}
pub use Rattle.web_pages.specs.Pieces.{missing_reply, reply_pieces, reply_pieces_by, reply_to, reply_to_by, piece_output}
pub use Rattle.web_pages.specs.Pieces.ScriptPiece.{Made, Plain}
pub use Rattle.web_pages.specs.Requests.{Wanted, after_method, has_ended, method_of, name_in, target_of, wanted, wanted_by}
pub use Rattle.web_pages.specs.Requests.Wanted.{Name, NotYet, Refused}
pub use Rattle.web_pages.specs.Serving.{is_served, no_hits}
pub use Rattle.web_pages.specs.WebSpec.{hit_at, hits_by, is_acknowledged, is_acknowledged_by, left_of, left_of_by}
pub use Rattle.web_pages.specs.WebSpec.{waits_for_capture, waits_for_capture_by, web_spec, web_spec_by, web_want, web_want_by}
pub use Rattle.web_pages.specs.Words.{LongNames, ReportedInPieces, reported_so_far}
pub use Rattle.web_pages.specs.WorkedPages.{AreWorkedPages, as_html, file, get, hello_site, hits_site, ok}
pub use Rattle.web_pages.specs.WorkedRequests.{AreWorkedRequests}
pub use Rattle.web_pages.specs.ZeroPages.{most_captures, request_for, zero_page, zero_reply, zero_piece_text, zero_snapshot}
