-- What the code that corrects a slot asks: the slot's answer (ReceiveSteps), all words in one call (BatchSteps).
pub mod ReceiveSteps
pub mod BatchSteps
