-- The names of the definitions of this crate that other files cite, passed on from one place. Declares nothing.
pub use Rattle.text_buffer.specs.Words.{word_if}
