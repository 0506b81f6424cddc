-- What each answer to making and correcting a word promises, over the definitions of `code_word_laws` and the numbers of
-- `refusals`.
pub mod Make
pub mod Correct
