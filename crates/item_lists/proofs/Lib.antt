pub mod Accepted
pub mod Written
pub mod Read
pub mod Words
